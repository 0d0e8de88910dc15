-- The definitions that the contracts of `syntax` cite, in the order in which to read them.
pub mod Names
pub mod Types
pub mod Sets
pub mod Context
pub mod Flat
pub mod Filter
pub mod FilterLoop
pub mod Fresh
pub mod Arrays
pub mod Rows
pub mod Options
pub mod Codes
