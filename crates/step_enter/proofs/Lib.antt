-- The laws of what is entered: of the functions; of the model: the parameters, the new environment, IDs that would be twice.
pub mod EnterLaws
pub mod Twice
pub mod ParameterLaws
pub mod Around
