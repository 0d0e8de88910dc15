-- The image and the questions of reading, in the order in which to read them.
pub mod Parse
pub mod Layout
pub mod Fields
pub mod Records
pub mod Kinds
pub mod Shape
pub mod Image
pub mod Answers
pub mod Reading
