-- What texts, errors and layouts of this crate say.
pub mod Signs
pub mod Parts
