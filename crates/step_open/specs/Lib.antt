-- The state that a store begins with.
pub mod Opening
