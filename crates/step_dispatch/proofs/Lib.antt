-- The laws of the dispatch.
pub mod NoRule
