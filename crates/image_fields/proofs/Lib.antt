-- The laws of where parsers stop.
pub mod Stops
pub mod FieldStops
