-- The laws of an event with argument values.
pub mod ShownLaws
