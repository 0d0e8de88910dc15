-- The laws of Create.
pub mod CreateLaws
pub mod SourceLaws
pub mod LinearLaws
