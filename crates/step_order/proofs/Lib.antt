-- The laws of the order of IDs, and of what makes the linear machine stop, bottom up.
pub mod HandLaws
pub mod ListLaws
pub mod OrderlyLaws
pub mod InOrderLaws
pub mod PartLaws
pub mod EnterLaws
pub mod StopLaws
