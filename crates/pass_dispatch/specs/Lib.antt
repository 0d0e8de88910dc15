-- What stands before a body, and which statements a step is for.
pub mod Choices
