-- Openings: the fronts of the tests are openings.
pub mod Openings
