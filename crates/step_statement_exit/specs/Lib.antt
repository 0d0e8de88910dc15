-- What an Exit shows.
pub mod Shown
