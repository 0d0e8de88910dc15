-- What the walk of annotation does, and what is written.
pub mod Marks
pub mod Annotating
