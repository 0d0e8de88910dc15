-- Which part of a program stands at a place of its records.
pub mod Views
pub mod Places
