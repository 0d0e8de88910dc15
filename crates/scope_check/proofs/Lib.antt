-- The laws of the scope check's code.
pub mod DefLaws
pub mod CheckLaws
pub mod DefWalks
pub mod ReplyLaws
