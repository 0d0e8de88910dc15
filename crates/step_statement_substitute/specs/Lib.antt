-- What a Substitute writes.
pub mod Substituting
