-- A value that stands at a place of bytes, and the parts of records by name.
pub mod Standing
pub mod Parts
pub mod Indexed
pub mod Recorded
