-- What is written of an image.
pub mod Emitting
pub mod Outputs
