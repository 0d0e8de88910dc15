-- The laws of a step that leaves cells and environment as they are.
pub mod StayingLaws
