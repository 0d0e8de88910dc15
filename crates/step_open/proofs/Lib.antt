-- The laws of question 14 of a store.
pub mod OpeningLaws
