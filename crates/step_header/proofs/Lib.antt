-- The laws of the first 64 bytes.
pub mod HeaderLaws
