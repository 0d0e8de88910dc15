-- Laws of the walk.
pub mod ScopeLaws
pub mod SourceLaws
pub mod WalkSteps
pub mod WalkViews
pub mod MaskSteps
