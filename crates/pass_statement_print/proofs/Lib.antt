-- Laws of the step of a PrintI64.
pub mod PrintLaws
