-- The laws of the walk of annotation.
pub mod MarkSteps
pub mod AnnotateLaws
