-- Laws of rows: of their IDs, of tests of all places, of lists of distinct IDs, of values written one after the other, of the slots of a store, and of
-- the records of an image.
pub mod RowLaws
pub mod RowLoops
pub mod DistinctLaws
pub mod ElementRows
pub mod SlotRows
pub mod RecordRowLaws
