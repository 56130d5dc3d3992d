-- The boundaries of domains.
--
-- point_at    the point of a row
-- edge_of     a segment as an edge, from its first point to its last
-- edges_of    the edges of all segments, in their order
-- back        an edge reversed, of wind_law
-- boundary    the edges round a domain, each with the domain on its left
use Rattle.std.specs.Prelude.{ℕ, ◌-◌, ◌<◌, ◌≤◌, ◌==◌, Bool, cond, true, false, List, [], ◌∷◌, map, slice_index_or, pos}
use Rattle.grid_geom.specs.declared.Point.{Point}
use Rattle.grid_geom.specs.declared.Edge.{Edge}
use Rattle.grid_geom.specs.Closed.{same_point}
pub use Rattle.wind_law.specs.Chains.{back}
pub use Rattle.wind_law.specs.Grid.{IsEdgeOnGrid}
use Rattle.geom_check.specs.declared.kinds.Segment.{Segment}
use Rattle.geom_check.specs.declared.limits.TheConstants.{MOST_DOMAINS, MOST_BOUNDARY_NUMBER}

-- the point of a row, from 1; past the last row the origin stands
abbrev pub point_at : List Point → ℕ → Point
point_at points row = slice_index_or points (row - 1) (record { x = pos 0; y = pos 0 })

-- a segment as an edge, from its first point to its last
abbrev pub edge_of : List Point → Segment → Edge
edge_of points s = record { a = point_at points s.p; b = point_at points s.q }

-- the edges of all segments, in their order
abbrev pub edges_of : List Point → List Segment → List Edge
edges_of points segments = map (edge_of points) segments

-- both ends are rows of a list of this length, and the domains are at most 64
pub record IsSegmentOf (count : ℕ) (s : Segment) : Type 0 where
  pub p_least : 1 ≤ s.p
  pub p_greatest : s.p ≤ count
  pub q_least : 1 ≤ s.q
  pub q_greatest : s.q ≤ count
  pub left : s.left ≤ MOST_DOMAINS
  pub right : s.right ≤ MOST_DOMAINS

-- a boundary number: from 1 to the greatest that a file may give
abbrev pub IsBoundaryNumber : ℕ → Type 0
IsBoundaryNumber n = (0 < n) × (n ≤ MOST_BOUNDARY_NUMBER)

-- 1 where the edge leaves a point, else 0; and 1 where it arrives there
abbrev pub departures_of : Edge → Point → ℕ
departures_of e w = cond (same_point e.a w) 1 0

abbrev pub arrivals_of : Edge → Point → ℕ
arrivals_of e w = cond (same_point e.b w) 1 0

-- the edge in front, where it is wanted
abbrev pub with_edge : Bool → Edge → List Edge → List Edge
with_edge true e es = e ∷ es
with_edge false e es = es

-- each segment with the domain on its left as it stands, each with the domain on its right reversed
abbrev pub boundary : List Point → ℕ → List Segment → List Edge
boundary points domain [] = []
boundary points domain (s ∷ ss) =
    with_edge (s.left == domain) (edge_of points s)
    (with_edge (s.right == domain) (back (edge_of points s)) (boundary points domain ss))
