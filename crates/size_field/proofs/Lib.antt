-- Boxes: the nearest number of a span, and what the code's casts leave.
pub mod Spans
-- Least sizes: lists of sources, and their order.
pub mod LeastSizes
pub mod Growing
pub mod Kept
-- Trees: what is known of a branch.
pub mod Branches
pub mod Taking
-- Pieces: middles, cuts in them, what holds of the pieces of a segment, and of all pieces.
pub mod Middles
pub mod Cuts
pub mod PartLaws
pub mod Rows
pub mod AllPieces
pub mod Bounds
pub mod Regions
pub mod Sides
