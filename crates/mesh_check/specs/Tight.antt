-- Meshes in which a point can hang nowhere, by what is counted.
--
-- HasNoOtherFault   none of the five faults but hanging points
-- IsSpared   a point is a corner of an element, and none is in an open edge row
-- IsTight    each point is a corner of an element, and none is in an open edge row
use Rattle.std.specs.Prelude.{ℕ, ◌+◌, ◌<◌, List, [], ◌∷◌, length, All, Any, Contains}
use Rattle.grid_geom.specs.declared.Point.{Point}
use Rattle.geom_check.specs.Accepted.{ArePlacesDifferent}
use Rattle.geom_check.specs.Geometry.{PlanarMap}
use Rattle.vol_format.specs.declared.EdgeRow.{EdgeRow}
use Rattle.vol_format.specs.declared.MeshElement.{MeshElement}
use Rattle.vol_format.specs.declared.Mesh.{Mesh}
use Rattle.mesh_check.specs.Parts.{row_edge}
use Rattle.mesh_check.specs.Whole.{DoRowsWalk, HasDomainOf, IsTurned, IsChained}
use Rattle.mesh_check.specs.Hung.{IsHungIn}

-- none of the five faults but hanging points
pub record HasNoOtherFault (g : PlanarMap) (m : Mesh) : Type 0 where
  pub places : ArePlacesDifferent m.points
  pub rows : DoRowsWalk g m
  pub domains : All (HasDomainOf g.domains) m.elements
  pub turned : All (IsTurned m.points) m.elements
  pub chained : (domain : ℕ) → 0 < domain → IsChained m domain

-- the point at the position i is a corner of an element
abbrev pub IsNamed : List MeshElement → ℕ → Type 0
IsNamed elements i = Any (λ e. Contains e.corners (i + 1)) elements

-- no point is in the open edge row
abbrev pub IsRowFree : List Point → EdgeRow → Type 0
IsRowFree points row = (i : ℕ) → ¬ IsHungIn points (row_edge points row ∷ []) i

-- the point at the position i is a corner of an element, and none is in an open edge row
pub record IsSpared (m : Mesh) (i : ℕ) : Type 0 where
  pub named : IsNamed m.elements i
  pub free : All (IsRowFree m.points) m.edges

-- each point is a corner of an element, and none is in an open edge row
pub record IsTight (m : Mesh) : Type 0 where
  pub named : (i : ℕ) → i < length m.points → IsNamed m.elements i
  pub free : All (IsRowFree m.points) m.edges
