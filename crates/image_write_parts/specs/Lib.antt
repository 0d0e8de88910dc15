-- Bytes put into a buffer, and what a writer of them writes.
pub mod Puts
pub mod Written
