-- The laws of wrapping, of comparisons, of quotients and of Op.
pub mod Wraps
pub mod Compares
pub mod Quotients
pub mod Operations
