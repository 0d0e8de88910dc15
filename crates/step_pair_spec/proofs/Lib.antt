-- The two steppers start alike, and show the same events.
pub mod Runs
pub mod Starting
pub mod Pairing
