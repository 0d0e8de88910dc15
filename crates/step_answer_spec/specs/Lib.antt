-- What a stepper's call answers.
pub mod Saying
