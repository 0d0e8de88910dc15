-- Reading a list into an array; what a record is made of, by its kind; and where its parts stand in an image.
pub mod FillLaws
pub mod MadeLaws
pub mod FieldPlaces
pub mod ListPlaces
