-- The laws of a variable looked up in slots.
pub mod NamedLaws
pub mod LastLaws
