-- The stopped flag of a state that was just written.
pub mod Settling
