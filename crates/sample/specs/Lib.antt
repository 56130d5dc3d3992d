pub mod Squares
pub mod Twelve
pub mod Plans
