-- What a start does.
pub mod Starting
