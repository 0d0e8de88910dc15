-- Counting what a cell holds; where a cell's slots are; what a cell that was looked up says of the model's.
pub mod HeldLaws
pub mod HeapLaws
pub mod CellLaws
pub mod CreateLaws
