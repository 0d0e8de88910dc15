-- Laws of the definitions.
pub mod DefSteps
