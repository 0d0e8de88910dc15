-- What is known of an image on the way through the questions.
pub mod Programs
