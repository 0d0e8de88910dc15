-- Laws of the contexts at work, bottom up: `SamePass` proves that the pass over them is the model's pass, `Rooms` that they fit, `Bounds` how
-- far max_id goes.
pub mod Lists
pub mod Entries
pub mod Standing
pub mod SameRules
pub mod SamePass
pub mod Lengths
pub mod PlaceLaws
pub mod Rooms
pub mod Bounds
