-- Laws of the places of a program's parts.
pub mod ViewLaws
pub mod PlaceLaws
pub mod Steps
pub mod Runs
