-- What the array of entries holds.
pub mod Holding
