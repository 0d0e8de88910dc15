-- The laws of pairs that are stored one after another.
pub mod Pairing
