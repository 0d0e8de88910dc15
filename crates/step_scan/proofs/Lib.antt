-- The laws of question 14 of slots.
pub mod PassLaws
