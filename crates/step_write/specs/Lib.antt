-- What is written for a step.
pub mod Writing
pub mod Working
