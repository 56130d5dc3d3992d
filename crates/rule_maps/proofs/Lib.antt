-- The proofs, in the order in which they stand on each other; each file is headed by what it proves.
-- Numbers: bounds, casts, roots, rounded quotients.
pub mod Numbers
pub mod Rounding
-- Frames: what the code of `frame` computes, and how far points in range are.
pub mod Frames
pub mod Ranges
-- Sums: what the code of `sums` computes, and that it is what a rule's text says.
pub mod Summing
pub mod Rows
-- Places: what a local place is on the grid.
pub mod GridPlaces
pub mod Putting
pub mod Constants
pub mod Compiling
-- Rules: balance, reach.
pub mod Balance
pub mod Idle
pub mod Reaches
-- Reach: what a rule uses lies in it.
pub mod InReach
-- Copies of mapped points are placed exactly.
pub mod Exact
