-- Rows of operators and comparisons, computed.
pub mod Rows
