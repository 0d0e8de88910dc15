-- What linearization answers, and what the bytes that it writes are.
pub mod Held
pub mod Formed
pub mod Replies
pub mod Readable
pub mod OnBytes
pub mod Worked
pub mod OnCalls
