-- One step of a machine on a store.
pub mod Rules
