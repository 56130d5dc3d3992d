-- What makes sure, in a test, that a geometry can be checked.
pub mod Rows
