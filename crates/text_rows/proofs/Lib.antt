pub mod FixedLaws
