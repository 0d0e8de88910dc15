-- The laws of Let: its statement and its step in slots, what is packed in `scratch`, and the steps of the two machines.
pub mod LetLaws
pub mod PackLaws
pub mod SourceLaws
pub mod LinearLaws
