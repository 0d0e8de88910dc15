-- Laws of the definitions of `syntax`, bottom up, and of the loops that compute them.
pub mod Bools
pub mod Lists
pub mod Counts
pub mod Members
pub mod Same
pub mod Permutations
pub mod Filters
pub mod Flats
pub mod FilterLoops
pub mod Drawing
