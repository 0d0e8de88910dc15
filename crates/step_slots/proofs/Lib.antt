-- The sorts by name and byte, numbers in two halves, reading and writing slots, slots that stand in bytes, their bytes, and their places.
pub mod SortLaws
pub mod Halves
pub mod SlotReads
pub mod SlotLaws
pub mod SlotBytes
pub mod SlotPlaces
pub mod PutLaws
