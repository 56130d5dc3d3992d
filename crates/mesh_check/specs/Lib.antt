-- Parts: what a mesh is made of, by places: elements' corners and sides, edge rows as edges, and both by domain.
-- Walked: edge rows that walk the segments of a geometry, and where such a walk stands.
-- Whole: the six faults, and meshes that have none.
-- Verdict: the first fault, at its least place.
-- Partition: winding numbers of elements, added up.
-- Tight: points that can't hang, since they are corners, and meshes of which all points are.
pub mod Parts
pub mod Walked
pub mod Whole
pub mod Verdict
-- What the code keeps on the way. Spots: points by their places. Least: least pairs. Stands: where a walk stands. Near: points and edges in trees by their boxes. Hung: points in open sides of one element. Balance: sides by numbers. Keys: sides as single numbers.
pub mod Partition
pub mod Spots
pub mod Least
pub mod Stands
pub mod Near
pub mod Hung
pub mod Balance
pub mod Keys
pub mod Tight
