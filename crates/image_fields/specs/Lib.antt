-- What the skipping functions answer.
pub mod Found
