-- What an Invoke finds and what it writes.
pub mod Invoking
