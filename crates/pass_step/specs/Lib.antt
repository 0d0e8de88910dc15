-- What a step of linearization needs and does.
pub mod Drawn
pub mod Outputs
pub mod Sources
pub mod Stepping
