-- The laws of Literal.
pub mod LiteralLaws
