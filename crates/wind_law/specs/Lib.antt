-- What the laws of winding numbers speak of, beside the words of grid_geom.
-- Grid: edges between grid points (`IsEdgeOnGrid`, `AreOnGrid`).
-- Chains: the edge from a to b (`edge`), its reverse (`back`), how often an edge stands in a list (`times`), lists that are the same chain (`IsSameChain`).
-- Parting: a line that parts an edge from two points (`IsParted`).
-- Centre: the centre of a polygon (`centre`).
-- Near: the closed polygon (`IsInClosure`), points near one of it (`HasPointNear`), one place by two triples (`IsSamePlace`), common points of two polygons (`HaveCommonPoint`).
-- Passing: segments from the left of an edge to its right (`DoesPass`), edges that they miss (`IsMissed`), a point of an open segment and one right of it (`IsRightAt`), points across it (`HasPointAcross`).
pub mod Grid
pub mod Chains
pub mod Parting
pub mod Centre
pub mod Near
pub mod Passing
