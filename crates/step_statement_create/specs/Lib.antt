-- What is read and written for a Create.
pub mod Creating
