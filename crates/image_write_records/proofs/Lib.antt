-- The laws of lists and records that are written part by part.
pub mod Writing
pub mod Joining
