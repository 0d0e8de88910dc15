-- The values of several variables.
pub mod Gathering
