-- The order of a rearrangement.
pub mod Joined
