-- Laws of the step of a Literal.
pub mod LiteralLaws
