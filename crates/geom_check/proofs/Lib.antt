-- The proofs of the check, by theme; each file is headed by what it proves.
-- Public are what crates above may cite where no law says it: a name that is public stays.
--
-- A file's numbers and rows moved to the grid, and what a geometry keeps of them.
pub mod Powers
pub mod Rows
pub mod SomeShift
pub mod PlacedGrid
pub mod DomainNumbers
pub mod KeptSizes
-- Pairs of points and of segments, and boundaries that are closed.
pub mod Reordered
pub mod LeastPairs
pub mod Untangled
pub mod PlaceKeys
pub mod Closing
-- Risers, which are segments turned upwards: winding numbers by them, where they are and in which order.
pub mod RiserWinding
pub mod RiserPlace
pub mod RiserOrder
pub mod KeyOrder
pub mod FreeRisers
pub mod EdgesTurned
pub mod Together
pub mod FarLeft
-- A strip: the risers that pass it, gathered, sorted and walked over, and the winding numbers between them.
pub mod Splits
pub mod StripWinding
pub mod Gathering
pub mod Walks
pub mod Levels
pub mod LevelLists
pub mod Sound
pub mod Overlaps
pub mod Borders
-- The walk up through the heights: risers that agree, how often each is in the order, and its steps.
pub mod Agreement
pub mod EventLists
pub mod Reached
pub mod WalkSteps
pub mod Tallies
pub mod Chains
-- Gaps: their middles, the least denominator, and the first gap with a fault.
pub mod Divisors
pub mod Nearest
pub mod Crossings
pub mod Midway
pub mod RiserMiddles
pub mod GapMiddles
pub mod GapStrips
pub mod FirstFaults
pub mod FirstWitness
-- A file has one answer.
pub mod GridFaults
pub mod Refusals
pub mod Acceptance
pub mod OneAnswer
pub mod OneRefusal
pub mod OneGeometry
