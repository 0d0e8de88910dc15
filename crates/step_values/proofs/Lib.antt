-- The laws of a start's values.
pub mod ValueLaws
