-- The pass as the code does it, over contexts whose bindings know what they stand for.
pub mod Work
pub mod Placed
