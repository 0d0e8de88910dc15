-- What a stepper's call answers, from what its questions gave.
pub mod AnswerLaws
