-- The laws of an integer under a new variable.
pub mod BindingLaws
