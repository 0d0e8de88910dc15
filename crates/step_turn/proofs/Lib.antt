-- The laws of one turn.
pub mod Turns
pub mod TurnLaws
pub mod RestLaws
pub mod SureLaws
