-- The laws of the directory, and of the record at a place.
pub mod Tiling
pub mod Places
