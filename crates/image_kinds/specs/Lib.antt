-- The kinds by their bytes.
pub mod Codes
