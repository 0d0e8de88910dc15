-- What the structs of records stand for.
pub mod Unpacked
