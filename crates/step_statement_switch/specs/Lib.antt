-- What is read and written for a Switch.
pub mod Switching
