-- Steps on an image, and what a call then says.
pub mod Stepping
