-- The laws of the stopped flag.
pub mod SettleLaws
pub mod Reading
