-- The order of IDs that a statement of the linear machine asks for, and whether the machine stops at a state.
pub mod Orderly
pub mod Stopping
pub mod Sure
