-- The six faults of a mesh, and meshes that are whole for a geometry: that have none.
--
-- DoRowsWalk       the edge rows walk the segments
-- HasDomainOf      an element's domain is one of the geometry's
-- IsTurned         an element is strictly convex, counterclockwise: of a triangle, that it is positively turned
-- DoesHang         a mesh point is in an open side of an element
-- sides_between    how many element sides of a domain join two points, less those that join them the other way
-- rows_between     how many edges of a domain's boundary do
-- IsWhole          none of the faults
use Rattle.std.specs.Prelude.{◌≡◌, ℕ, ◌<◌, ◌≤◌, List, length, slice_index_or, All, Any, ℤ}
use Rattle.grid_geom.specs.declared.Point.{Point}
use Rattle.grid_geom.specs.declared.Edge.{Edge}
use Rattle.grid_geom.specs.Sides.{IsOnOpen}
use Rattle.grid_geom.specs.Polygon.{sides, IsStrictlyConvex}
use Rattle.state_law.specs.Net.{net}
use Rattle.state_law.specs.State.{corners_of, pair_edge}
use Rattle.state_law.specs.Kept.{all_sides}
use Rattle.geom_check.specs.Accepted.{ArePlacesDifferent}
use Rattle.geom_check.specs.declared.kinds.Domain.{Domain}
use Rattle.geom_check.specs.Geometry.{PlanarMap}
use Rattle.vol_format.specs.declared.MeshElement.{MeshElement}
use Rattle.vol_format.specs.declared.Mesh.{Mesh}
use Rattle.mesh_check.specs.Parts.{polygons_in, boundary_rows}
use Rattle.mesh_check.specs.Walked.{DoWalk, places_of}

-- the edge rows walk the segments one after another, each from its first place to its last, along it and strictly
-- forward, with its sides, its boundary number and its own number
abbrev pub DoRowsWalk : PlanarMap → Mesh → Type 0
DoRowsWalk g m = DoWalk (places_of g m) 1 g.segments m.edges

-- the element's domain is one of these
abbrev pub HasDomainOf : List Domain → MeshElement → Type 0
HasDomainOf domains e = Any (λ d. d.number ≡ e.domain) domains

-- the element's corners are those of a strictly convex polygon, counterclockwise
abbrev pub IsTurned : List Point → MeshElement → Type 0
IsTurned points e = IsStrictlyConvex (corners_of points e.corners)

-- the place is in an open side of the list
abbrev pub IsInOpenSide : List Edge → Point → Type 0
IsInOpenSide edges p = Any (λ s. IsOnOpen p s.a s.b) edges

-- point i of the mesh is in an open side of element k, both from 0
pub record DoesHang (points : List Point) (elements : List MeshElement) (i k : ℕ) : Type 0 where
  pub point_in_list : i < length points
  pub element_in_list : k < length elements
  pub hangs : (p : Point) (e : MeshElement)
      → IsInOpenSide (sides (corners_of points (slice_index_or elements k e).corners))
      (slice_index_or points i p)

-- how many sides of the domain's elements go from one point to another, less those that go back
abbrev pub sides_between : Mesh → ℕ → ℕ → ℕ → ℤ
sides_between m domain from to = net (pair_edge m.points (from, to))
    (all_sides (polygons_in m.points domain m.elements))

-- how many edge rows round the domain, with it on their left, go from one point to another, less those that go back
abbrev pub rows_between : Mesh → ℕ → ℕ → ℕ → ℤ
rows_between m domain from to = net (pair_edge m.points (from, to))
    (boundary_rows m.points domain m.edges)

-- from and to are numbers of two of the points
pub record IsPair (m : Mesh) (from to : ℕ) : Type 0 where
  pub first : 1 ≤ from
  pub ordered : from < to
  pub last : to ≤ length m.points

-- elements and boundary agree between each two points
abbrev pub IsChained : Mesh → ℕ → Type 0
IsChained m domain = (from to : ℕ) → IsPair m from to
    → sides_between m domain from to ≡ rows_between m domain from to

-- none of the six faults: points have different places; the edge rows walk the segments; each element's domain is one
-- of the geometry's; each is positively turned; no point hangs; and elements and boundaries agree
pub record IsWhole (g : PlanarMap) (m : Mesh) : Type 0 where
  pub places : ArePlacesDifferent m.points
  pub rows : DoRowsWalk g m
  pub domains : All (HasDomainOf g.domains) m.elements
  pub turned : All (IsTurned m.points) m.elements
  pub unhung : (i k : ℕ) → ¬ DoesHang m.points m.elements i k
  pub chained : (domain : ℕ) → 0 < domain → IsChained m domain
