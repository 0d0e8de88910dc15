-- The last entries of a linear list, and a new cell under a variable.
pub mod LastEntries
pub mod NewCells
