-- What is read for a Call.
pub mod Calling
