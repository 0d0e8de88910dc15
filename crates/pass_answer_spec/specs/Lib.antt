-- What linearization answers, and what the bytes that it writes are.
pub mod Calls
pub mod FirstNo
pub mod OnBytes
