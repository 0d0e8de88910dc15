-- The laws of PrintI64.
pub mod PrintLaws
