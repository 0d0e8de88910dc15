-- Laws of the step of a Let.
pub mod LetLaws
