-- The laws of Op.
pub mod OpLaws
