-- The laws of Call.
pub mod TheCall
pub mod CallLaws
pub mod SourceLaws
pub mod LinearLaws
