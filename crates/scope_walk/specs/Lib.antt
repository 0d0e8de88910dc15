-- Where the walk has come to, and the masks that it finds.
pub mod Masks
pub mod Walks
