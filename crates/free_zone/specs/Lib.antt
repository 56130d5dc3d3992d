-- What is in the way of a rule.
-- Zone      the corners of a rule's zone at a class (`zone_of`), and what every zone is (`IsZone`).
-- InTheWay  the points and lines of a front that are in the way (`IsPointInWay`, `IsLineInWay`), and which of them is told (`IsAnswer`).
-- Walked    what is found while near lines are walked (`IsFound`), for proofs.
pub mod Zone
pub mod InTheWay
pub mod Walked
