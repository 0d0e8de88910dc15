-- Laws of linearization over records, bottom up.
pub mod RoomLaws
pub mod SourceLaws
pub mod LeaveLaws
pub mod StatementLaws
pub mod WalkSteps
pub mod LoopSteps
pub mod OutputLaws
