-- Laws of the walks.
pub mod WalkLaws
pub mod FlatLaws
pub mod MarkLaws
pub mod RowLaws
pub mod FreeViews
pub mod Inside
pub mod IdsFit
pub mod MarkViews
pub mod RoomLaws
pub mod PairLaws
