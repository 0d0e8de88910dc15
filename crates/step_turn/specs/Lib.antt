-- One turn of a stepper.
pub mod Turning
