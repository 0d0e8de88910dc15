-- Laws of steps: a source's record; what is written; what the masks say and structs hold; fresh names; places; when the context is right; what
-- binds behind what is retained, what ends a body, what opens clauses.
pub mod SourceLaws
pub mod WriteLaws
pub mod StepLaws
pub mod FreshLaws
pub mod ReserveLaws
pub mod RightLaws
pub mod BindLaws
pub mod EndLaws
pub mod OpenLaws
