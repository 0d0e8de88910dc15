-- Rows of variable IDs in bytes, what is asked of two rows, and the rows of records.
pub mod Placing
pub mod Rows
pub mod Apart
pub mod RecordRows
