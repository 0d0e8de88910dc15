-- What linearization over records needs and does.
pub mod Walking
pub mod Outputs
