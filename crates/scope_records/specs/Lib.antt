-- The count of an environment, and what is asked of each record alone.
pub mod Environments
pub mod Tests
