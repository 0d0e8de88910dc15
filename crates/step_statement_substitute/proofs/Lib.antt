-- The laws of Substitute: what is packed in `scratch`, and the linear machine's step.
pub mod PackLaws
pub mod SubstituteLaws
