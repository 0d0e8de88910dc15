-- The laws of Exit.
pub mod ExitLaws
