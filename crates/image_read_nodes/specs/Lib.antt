-- The record at an index of an image that was opened.
pub mod Nodes
