-- The values of a start, as code tests them.
pub mod Values
