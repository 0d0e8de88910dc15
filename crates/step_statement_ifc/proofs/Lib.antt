-- The laws of IfC.
pub mod IfCLaws
