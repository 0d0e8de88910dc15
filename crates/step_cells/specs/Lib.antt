-- The cell that a value refers to.
pub mod Cells
