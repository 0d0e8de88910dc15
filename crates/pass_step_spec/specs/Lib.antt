-- Linearization as a walk over records sees it, in the order in which to read it.
pub mod Steps
pub mod Fronts
