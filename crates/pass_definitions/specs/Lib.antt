-- What the definitions need.
pub mod Defining
