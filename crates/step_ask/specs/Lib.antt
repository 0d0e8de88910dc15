-- What a stepper asks of an image.
pub mod Asking
