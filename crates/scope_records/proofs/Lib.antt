-- Laws of the questions that are asked of each record alone.
pub mod FlatLaws
