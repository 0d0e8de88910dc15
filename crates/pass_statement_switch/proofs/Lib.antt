-- Laws of the step of a Switch.
pub mod SwitchLaws
