-- The list of pairs that a substitution holds.
pub mod Pairs
