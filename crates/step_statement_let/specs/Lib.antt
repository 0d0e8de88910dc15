-- What a Let writes.
pub mod Letting
