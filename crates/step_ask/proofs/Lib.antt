-- The laws of a stepper's questions.
pub mod AskLaws
