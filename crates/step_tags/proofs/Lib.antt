-- Where the tag of a record stands.
pub mod TagLaws
