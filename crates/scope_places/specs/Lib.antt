-- The scopes that the code holds: in a lent array, to be written or only read, and what a use and a binder make of them.
pub mod Places
pub mod Views
pub mod Scoping
