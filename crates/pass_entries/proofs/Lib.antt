-- Laws of masks.
pub mod MaskLaws
