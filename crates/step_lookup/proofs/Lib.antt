-- The laws of a variable looked up.
pub mod LookupLaws
