-- Definitions and clauses as heads with a body, the table of ends, and what a search answers.
pub mod Heads
pub mod Ends
pub mod Searches
