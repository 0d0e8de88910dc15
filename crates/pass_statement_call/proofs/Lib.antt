-- Laws of the step of a Call.
pub mod CallLaws
