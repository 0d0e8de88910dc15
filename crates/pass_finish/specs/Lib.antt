-- What the end of linearization does.
pub mod Finishing
