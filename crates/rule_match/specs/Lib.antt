-- What this crate's words mean, in the order of standing on each other.
-- Order: which of two finds comes first.
pub mod Order
-- Candidate, Applied: when a rule applies at a line and what it does. Least: the least candidate of a line at a class. Best: its application.
pub mod Candidate
pub mod Applied
pub mod Least
pub mod Best
-- Refused: why no candidate is there.
pub mod Refused
-- Walk: what a search promises.
pub mod Walk
-- Fitting: which first points of an assignment may go on. Trying: the tests of a rule's points. Around: that near points and lines are those of the front, of all points or of a few.
pub mod Fitting
pub mod Trying
pub mod Around
-- Base: a front line tried at a class, and the attempts for which assignments of near points stand.
pub mod Base
-- Noted: what a search notes of assignments that fail.
pub mod Noted
-- MoreNotes: with more notes a reason stays a reason.
pub mod MoreNotes
-- Idle: rules of which none can apply.
pub mod Idle
-- Passed: what a search over the rules owes.
pub mod Passed
-- Near: when a later state is, near a line, as an earlier one was.
pub mod Near
-- Leeways: how far mapped points are from their places at most, by the tolerances of a class.
pub mod Leeways
-- LookedAgain: when a refused line stays refused over an application.
pub mod LookedAgain
