-- What the exported functions of the steppers report.
pub mod StepLaws
