-- The laws of heads, of the table of ends, of names in an image's bytes, of searches, and of where the next statement stands.
pub mod HeadLaws
pub mod EndLaws
pub mod NamedLaws
pub mod SearchLaws
pub mod NextPlaces
