-- Laws of arrays that a loop stores into place by place, and what each rule stores there; of uses and comparisons a place at a time; and for callers.
pub mod Counts
pub mod Stores
pub mod Elements
pub mod Uses
pub mod Comparisons
pub mod HeldLaws
