-- The laws of one step on a store, bottom up.
pub mod Views
pub mod Written
pub mod Leads
pub mod Ways
pub mod Finds
pub mod Statements
pub mod Machines
pub mod Heads
