-- What the walk over the records sees.
pub mod Nodes
