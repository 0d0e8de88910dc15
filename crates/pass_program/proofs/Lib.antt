-- Laws of linearization of a whole image.
pub mod ProgramLaws
