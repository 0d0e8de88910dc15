-- What the exported functions report.
pub mod Steps
