-- What is shown with argument values.
pub mod Showing
