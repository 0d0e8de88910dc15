-- Laws of the steps, bottom up: `WorkViews` proves that the pass goes by them, `FrontLaws` how much each writes, `SameSets` that only the
-- members of a set count, `StepBounds` how far a step goes, `SizeBounds` how much the whole pass writes.
pub mod WorkViews
pub mod FrontLaws
pub mod SameSets
pub mod StepBounds
pub mod SizeBounds
