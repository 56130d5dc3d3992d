pub mod Rows
pub mod Fixed
