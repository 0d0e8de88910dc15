-- The laws of Switch.
pub mod TheSwitch
pub mod SwitchLaws
pub mod SourceLaws
pub mod LinearLaws
