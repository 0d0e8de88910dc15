-- The laws of the format, in the order in which they build on each other.
pub mod ListLaws
pub mod ParseLaws
pub mod FieldLaws
pub mod RecordLaws
pub mod KindLaws
pub mod ShapeLaws
pub mod FlatLengths
pub mod DirectoryLaws
pub mod ReadingLaws
pub mod OneToOne
pub mod Worked
