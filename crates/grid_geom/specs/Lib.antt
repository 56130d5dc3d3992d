-- What this crate's words mean, in the order of standing on each other.
-- Bounds: the grid. Plane: orientation of three points, rational points. Sides: where a point lies beside a segment, and segments that tangle.
-- Boxes: boxes with sides along the axes that meet. Sharing: what two segments share in rational points. Polygon: sides, strict convexity, the open polygon, segments apart from it. Area: the shoelace rule.
-- Winding: winding numbers. Closed: closed lists of edges.
-- Line: lines by three whole numbers, and Segment: segments between rational points; proofs and the laws of winding numbers speak of these.
pub mod Bounds
pub mod Plane
pub mod Boxes
pub mod Sides
pub mod Sharing
pub mod Polygon
pub mod Area
pub mod Line
pub mod Segment
pub mod Calls
pub mod Winding
pub mod Closed
