-- Which branch an IfC takes.
pub mod Choices
