-- The model, in the order in which to read it.
pub mod Syntax
pub mod Sizes
pub mod Lists
pub mod FreeVars
pub mod Renaming
pub mod Rules
pub mod Pass
pub mod Rust
pub mod Rows
pub mod Integers
pub mod Machine
pub mod Source
pub mod Linear
pub mod Questions
pub mod Demand3
