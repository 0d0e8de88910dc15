-- Slots put one after another, under other IDs, as an event shows them; and what they are in the model.
pub mod Filling
pub mod Renaming
pub mod Showing
pub mod GatheredSlots
pub mod CellNumbers
pub mod GatheringLaws
