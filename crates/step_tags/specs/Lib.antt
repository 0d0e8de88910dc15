-- The tag of a record.
pub mod Tags
