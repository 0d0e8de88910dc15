-- Laws of the step of an IfC.
pub mod IfCLaws
