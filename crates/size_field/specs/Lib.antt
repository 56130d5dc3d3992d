-- What this crate's words mean.
-- Size: the size of a domain at a point, by a list of sources. Boxes: points and sources in a box. Tree: a tree of sources.
-- Kept: what sizes keep of both. Cutting: the pieces of segments. Parts: what holds of pieces.
-- Boundary: the boundaries of domains in pieces. Fields: the sizes of a domain after cutting.
pub mod Size
pub mod Boxes
pub mod Tree
pub mod Kept
pub mod Cutting
pub mod Parts
pub mod Boundary
pub mod Fields
