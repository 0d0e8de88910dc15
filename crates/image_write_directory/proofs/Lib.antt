-- Laws of what is written.
pub mod EmitLaws
pub mod DirectoryLaws
