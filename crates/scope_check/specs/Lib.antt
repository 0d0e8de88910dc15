-- What the functions of the scope check answer for one record, and for the records from a place on.
pub mod Definitions
pub mod Deciding
