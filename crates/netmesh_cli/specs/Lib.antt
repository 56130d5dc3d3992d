-- The words of the contracts.
--
-- what is built of what the words of a call ask for
pub mod Words
-- which bytes are accepted, and what is made of them
pub mod Accepted
pub mod BytesRefused
pub mod Run
pub mod Shown
pub mod Listed
pub mod Judged
pub mod Viewed
-- what is taken and put, verb by verb
pub mod Causes
pub mod Held
pub mod Kinds
pub mod Taking
pub mod Jobs
-- what a call leaves, one way for all verbs
pub mod Served
pub mod Lines
pub mod Status
pub mod Top
