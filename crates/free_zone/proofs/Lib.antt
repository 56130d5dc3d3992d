-- The proofs.
-- InTurn: the corners of a rule's zone, one by one.
pub mod InTurn
-- Boxed: a box that holds a zone's corners.
pub mod Boxed
-- AtNumbers: front lines by their numbers, front points.
pub mod AtNumbers
-- Near: a line whose box misses the zone's is not in the way.
pub mod Near
-- Walking: what is found while the near lines are walked, and at the end.
pub mod Walking
-- Told: what is told at the end.
pub mod Told
-- OneAnswer: an answer is the only one.
pub mod OneAnswer
-- Listed: the near lines looked at one by one, and the least in the way at the end.
pub mod Listed
