pub mod Vol
pub mod Text
pub mod Refusals
pub mod Reading
