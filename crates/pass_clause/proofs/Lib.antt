-- Laws of what stands before a body.
pub mod EnterLaws
