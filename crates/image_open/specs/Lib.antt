-- What opening an image answers.
pub mod Opening
pub mod Opens
