-- The proofs, by theme; each file is headed by what it proves.
--
-- Prefixes: what holds of the first items of a list.
-- Apart: points with different numbers have different places.
-- LeastPairs: the least pair with a property.
-- SpotOrder: points sorted by place.
-- Twins: the least two points at one place.
-- Kept: entries of trees, and what a box picks out.
-- OpenSides: points in open sides.
-- SliceParts: a slice as its first item and the rest.
-- SideCounts: how often sides stand in lists.
-- Paired: keys of sides in pairs.
-- Shelved: keys put into empty places.
-- Numbered: sides by numbers and by places.
-- Domains: domains are above 0; what the search for a difference answers.
-- Seen: lists as the check sees them.
-- Walks: walks of edge rows, step by step.
-- OneWalk, OneVerdict: a mesh has one verdict.
-- RowWinding, Partition, NoSharedSide: elements wind as boundaries do, and share no directed side.
-- Noted: points noted as corners, edge rows with no point in them.
-- Touching, NoCornerHangs: where sides' sums agree, no corner of an element hangs.
-- Moves: the tests of an edge row's ends.
pub mod Prefixes
pub mod Apart
pub mod LeastPairs
pub mod SpotOrder
pub mod Twins
pub mod Kept
pub mod OpenSides
pub mod SliceParts
pub mod SideCounts
pub mod Paired
pub mod Shelved
pub mod Numbered
pub mod Domains
pub mod Seen
pub mod Walks
pub mod OneWalk
pub mod OneVerdict
pub mod RowWinding
pub mod Partition
pub mod NoSharedSide
pub mod Moves
pub mod Touching
pub mod NoCornerHangs
pub mod Noted
