-- Laws of the record at an index: the bytes of its tail, its identifiers, the second operand of an IfC, its list, what follows it.
pub mod TailLaws
pub mod NodeLaws
pub mod SecondLaws
pub mod ListLaws
pub mod StepLaws
