-- A new cell under var.
pub mod NewCell
