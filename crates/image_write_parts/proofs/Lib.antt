-- The laws of bytes put into a buffer, and of what a writer writes.
pub mod Codes
pub mod Putting
pub mod Writing
pub mod WriterLaws
