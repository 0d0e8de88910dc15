-- Rows of marks: the loops over them.
pub mod MarkedLaws
