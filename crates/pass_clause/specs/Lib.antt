-- What stands before a body.
pub mod Entering
