-- The laws of winding numbers, in the order of standing on each other. Each file says at its head what it proves and what it stands on.
-- Public are what crates above may cite where no law says it: a name that is public stays.
--
-- HalfOpen: the crossing of one edge, over four whole numbers.
-- Counting, ClosedSums: along a closed list no function of the points gains anything.
-- Additive: law Additive.
-- Uncrossed: law Uncrossed, by one number per end of an edge. The heart of the crate.
-- Beyond: a closed list on one side of a line.
-- InTriangle, Corners, Polygons: law Polygon, for any number of corners.
-- EdgeLines, Inside: law Inside.
-- NearPoint: law Near point.
-- Jump, Passage: law Jump, in terms of lines and then of points.
-- SameChain: equal chains have equal winding numbers and areas.
-- ConvexArea: a strictly convex polygon has an area above 0.
-- SortedEnds: what `closed` computes.
-- Overlap: two polygons with a side in common share a point.
-- JumpNear, JumpAt: law Jump near a point, in terms of lines and then of points.
pub mod HalfOpen
pub mod Counting
pub mod ClosedSums
pub mod Additive
pub mod Uncrossed
pub mod Beyond
pub mod InTriangle
pub mod Corners
pub mod Polygons
pub mod EdgeLines
pub mod Inside
pub mod NearPoint
pub mod Jump
pub mod Passage
pub mod SameChain
pub mod ConvexArea
pub mod SortedEnds
pub mod Overlap
pub mod JumpNear
pub mod JumpAt
