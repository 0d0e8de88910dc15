-- A step that leaves cells and environment as they are.
pub mod Staying
