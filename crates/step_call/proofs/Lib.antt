-- The laws of a call for steps.
pub mod OpenedState
pub mod CallLaws
pub mod ForgedLaws
pub mod OnLaws
