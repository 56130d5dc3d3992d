-- The order of finds: RankOrder, that it is total; OneLeast, that a line has one least candidate.
pub mod RankOrder
pub mod OneLeast
-- The walk: Advances, what is found and noted along it; Turns, one turn of a loop; GoingOn, of which regions what is found is; Regions, regions narrowed to fresh numbers.
pub mod Advances
pub mod Turns
pub mod GoingOn
pub mod Regions
-- Reasons: Places, from candidates by numbers to candidates by places; KeptOne, reasons over an application.
pub mod Places
pub mod KeptOne
-- First points: Prefixes, what fails of them fails however they go on; Orders, the rule's order and the order of mapping; NextPoint, the tests when one point more is mapped; Covered, the regions of points; Tried, that a candidate's points meet each test.
pub mod Prefixes
pub mod Orders
pub mod NextPoint
pub mod Covered
pub mod Tried
-- Over a front: Gathered, the walk over the lines near a base line.
pub mod Gathered
-- NearPlaces: the box of all points in range, and local places, as the code computes them.
pub mod NearPlaces
-- Surroundings: the starts of front lines in range are the front points in range.
pub mod Surroundings
-- NewParts: the new points and the elements of an attempt.
pub mod NewParts
-- Standing: an assignment that meets each test stands for an attempt that meets a candidate's sentences on points, lines and turns.
pub mod Standing
-- BaseLines: a front line's frame, and its near points.
pub mod BaseLines
-- GluedParts: elements by numbers and by places.
pub mod GluedParts
-- Judged: what a whole assignment is judged by.
pub mod Judged
-- OverRules: the search over all rules. FoundParts: the application that a find gives.
pub mod OverRules
pub mod FoundParts
-- The law Near: a candidate's places lie in its reach.
pub mod WithinReach
-- A candidate by places is one by numbers; a later candidate is an earlier one.
pub mod NearBack
-- FarAway: elements in a box leave a front alike in each box apart from it.
pub mod FarAway
-- ReachBoxes: the box of a line's reach, cut off at the grid.
pub mod ReachBoxes
-- Tolerated: how far tolerated points are from their places. CoversAt: numbers that cover rules up to a class.
pub mod Tolerated
pub mod CoversAt
-- Reasons of assignments that fail: NotesMade, notes as they are made; Hindered, refusals of elements; Excused, each reason.
pub mod NotesMade
pub mod Hindered
pub mod Excused
-- StillRefused: a refused line stays refused where what maps a fresh point was looked at again.
pub mod StillRefused
