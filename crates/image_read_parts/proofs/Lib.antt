-- The laws of values that stand in bytes, where the parts of each record stand, and the kind of a record of an image.
pub mod StandingLaws
pub mod PartPlaces
pub mod TailPlaces
pub mod NamedPlaces
pub mod Indexing
