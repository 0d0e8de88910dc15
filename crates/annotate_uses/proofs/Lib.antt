-- The laws of sets with room, of counts, and of scopes.
pub mod SetLaws
pub mod CountLaws
pub mod BindLaws
