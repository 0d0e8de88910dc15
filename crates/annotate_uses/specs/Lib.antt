-- Sets that the code holds, and what a walk needs of an image.
pub mod Sets
pub mod Sources
