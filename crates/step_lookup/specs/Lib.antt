-- The integers of slots.
pub mod Integer
