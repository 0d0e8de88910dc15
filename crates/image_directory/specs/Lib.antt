-- The directory of an image.
pub mod Slots
pub mod Images
