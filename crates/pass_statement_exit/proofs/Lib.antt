-- Laws of the step of an Exit.
pub mod ExitLaws
