-- Laws of bytes that are copied, and of bytes that are put over others.
pub mod Copying
pub mod Covering
