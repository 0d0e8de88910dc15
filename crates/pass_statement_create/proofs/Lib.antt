-- Laws of the step of a Create.
pub mod CreateLaws
