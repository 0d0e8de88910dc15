-- Laws of a rearrangement.
pub mod PairLaws
pub mod ArrangeLaws
