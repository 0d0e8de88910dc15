-- Laws of the step of an Op.
pub mod OpLaws
