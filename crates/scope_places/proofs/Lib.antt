-- Laws of scopes and of masks over their places.
pub mod EnterLaws
pub mod MaskLaws
pub mod UseLaws
