-- Steps one after another.
pub mod Runs
