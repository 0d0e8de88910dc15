-- One program stepped through both machines, every byte.
pub mod Worked
