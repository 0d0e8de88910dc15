-- The laws of Invoke: the clause that is entered, what is written, the first slots of a store, and the steps of the machines.
pub mod EntranceLaws
pub mod EnteringLaws
pub mod FirstSlots
pub mod InvokeLaws
pub mod SourceLaws
pub mod LinearLaws
