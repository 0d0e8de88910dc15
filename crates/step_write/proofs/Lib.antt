-- The laws of what is written for a step.
pub mod Regions
pub mod FinishLaws
