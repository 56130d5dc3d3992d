-- What this crate's words mean.
-- Shift: numbers of a file moved to the grid. Placed: rows of a file moved to the grid. Boundary: the edges round a domain. Domains: the domains that segments name.
-- Geometry: what an accepted geometry keeps of its file. Risers, RiserOrder: segments turned upwards, and their order from left to right.
-- Gaps: the gap to the right of a riser. Strips: the gaps between the edges. Accepted: which geometries are accepted. Refused: why a geometry is refused.
-- Walk, Doubt: the walk up through the heights, and why it doesn't find winding numbers sound.
-- Spans: edges with their boxes. Places: places of the grid by one number.
pub mod Shift
pub mod Placed
pub mod Boundary
pub mod Domains
pub mod Strips
pub mod Accepted
pub mod Refused
pub mod Risers
pub mod RiserOrder
pub mod Geometry
pub mod Gaps
pub mod Spans
pub mod Places
pub mod Walk
pub mod Doubt
