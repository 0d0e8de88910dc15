-- The laws of a start.
pub mod BeginLaws
pub mod StartLaws
pub mod FlagLaws
pub mod StartedLaws
pub mod FoundLaws
