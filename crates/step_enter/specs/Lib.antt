-- What is read of a clause or a definition that is entered, and what is written.
pub mod Entering
