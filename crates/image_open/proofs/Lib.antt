-- The stages of opening an image, and what an opened image is.
pub mod Stages
pub mod OpenedLaws
