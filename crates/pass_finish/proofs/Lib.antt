-- The laws of the end of linearization.
pub mod Completing
pub mod FinishLaws
