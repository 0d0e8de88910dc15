-- An integer under a new variable.
pub mod Binding
