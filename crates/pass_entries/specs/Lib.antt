-- What an entry that stands in an array says; the test of a mask's bit, and masks with more places.
pub mod Entries
pub mod Masks
