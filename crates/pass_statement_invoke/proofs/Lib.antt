-- Laws of the step of an Invoke.
pub mod InvokeLaws
