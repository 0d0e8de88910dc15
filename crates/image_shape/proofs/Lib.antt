-- The laws of the walk.
pub mod Heads
mod Steps
