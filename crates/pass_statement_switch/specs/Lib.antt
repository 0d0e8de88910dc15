-- What a Switch draws.
pub mod Drawing
