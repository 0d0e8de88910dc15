-- The scope check and the free variables, as walks over a program do them.
pub mod Flat
pub mod Calls
pub mod Rooms
pub mod Walk
pub mod Marking
pub mod FreeRows
pub mod Pairs
