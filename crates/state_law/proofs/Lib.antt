-- The laws of a state, by theme, in the order in which they stand on each other. Each file says at its head what it proves and what it stands on.
--
-- Lists of edges: facts of each item, and how often an edge stands in a list.
pub mod Lists
pub mod Counts
-- Gluing as chains, and what it keeps of doubles, reverses and tangles.
pub mod Glued
pub mod GluedFree
pub mod SidesFree
pub mod Untangled
pub mod KeptOn
-- Points near a point: lines that part it from edges, a point beside it, the winding number at a centre.
pub mod Parted
pub mod Beside
pub mod CentreSaved
-- Fronts as regions: gluing, cutting, places and ground that take no further element.
pub mod Region
pub mod Saved
pub mod TakenPlaces
pub mod Hanging
pub mod Settled
pub mod Spent
pub mod Cut
pub mod Pieces
-- Whole applications, from the opening on, and one polygon glued to itself.
pub mod Applied
pub mod OnePolygon
-- Domains that conform.
pub mod Conform
pub mod Foreign
-- Numbers in place of places.
pub mod Numbers
pub mod LineNumbers
-- Refusals, and fronts alike in a box.
pub mod Refused
pub mod Boxes
pub mod NearLines
pub mod NearLaw
-- The definitions computed on a small front.
pub mod Worked
