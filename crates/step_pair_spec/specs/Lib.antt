-- The source stepper on an image, and the linear one on what linearization wrote for it.
pub mod Pairs
