-- Steps one after another, as a loop makes them.
pub mod RunLaws
pub mod LoopLaws
