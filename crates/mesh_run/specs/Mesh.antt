-- The mesh of a whole run.
use Rattle.std.specs.Prelude.{ℕ, ◌+◌, ◌-◌, ◌≤◌, nat_le, List, [], ◌∷◌, ◌++◌, length, map, drop, if◌then◌else◌}
use Rattle.std.specs.List.{flat_map, All}
use Rattle.grid_geom.specs.declared.Point.{Point}
use Rattle.geom_check.specs.declared.kinds.Segment.{Segment}
use Rattle.size_field.specs.declared.pieces.Piece.{Piece}
use Rattle.vol_format.specs.declared.EdgeRow.{EdgeRow}
use Rattle.vol_format.specs.declared.MeshElement.{MeshElement}
use Rattle.vol_format.specs.declared.Mesh.{Mesh}
use Rattle.mesh_run.specs.declared.WholeRun.{WholeRun}
use Rattle.mesh_run.specs.declared.domain_run.DomainRun.{DomainRun}
use Rattle.geom_check.specs.Boundary.{point_at}
use Rattle.mesh_run.specs.Boundary.{segment_of, IsNumberTo}
use Rattle.mesh_run.specs.Numbering.{number_in}
use Rattle.mesh_run.specs.Opening.{mesh_points}

-- the points that a domain's run made
abbrev pub new_points : DomainRun → List Point
new_points r = drop r.opened r.points

-- the ends of the pieces, and then the new points domain by domain
abbrev pub whole_points : WholeRun → List Point
whole_points w = mesh_points w.pieces ++ flat_map new_points w.domains

-- a piece with its ends' mesh numbers, and what its segment says
abbrev pub edge_row : List Point → List Segment → Piece → EdgeRow
edge_row points segments p = let s = segment_of segments p in record {
  bc = s.bc;
  a = number_in points p.a;
  b = number_in points p.b;
  left = s.left;
  right = s.right;
  segment = p.segment;
}

-- the mesh number of point n of the domain's run: that of its place where it was there at the opening. New points follow the `before` mesh points before them
abbrev pub mesh_number : List Point → ℕ → DomainRun → ℕ → ℕ
mesh_number points before r n =
    if nat_le n r.opened then number_in points (point_at r.points n) else before + (n - r.opened)

-- an element of a domain's run, its corners by their mesh numbers
abbrev pub mesh_element : List Point → ℕ → DomainRun → List ℕ → MeshElement
mesh_element points before r corners =
    record { domain = r.domain; corners = map (mesh_number points before r) corners }

-- the elements of a domain's run in order of making
abbrev pub elements_of : List Point → ℕ → DomainRun → List MeshElement
elements_of points before r = flat_map
    (λ a. map (mesh_element points before r) a.elements) r.applications

-- the elements domain by domain, where `before` mesh points come before the first domain's new ones
abbrev pub elements_from : List Point → ℕ → List DomainRun → List MeshElement
elements_from points before [] = []
elements_from points before (r ∷ rs) =
    elements_of points before r ++ elements_from points (before + length (new_points r)) rs

-- points, the pieces as edge rows, and the elements domain by domain
abbrev pub mesh_of_run : WholeRun → List Segment → Mesh
mesh_of_run w segments = record {
  shift = w.shift;
  points = whole_points w;
  edges = map (edge_row (mesh_points w.pieces) segments) w.pieces;
  elements = elements_from (mesh_points w.pieces) (length (mesh_points w.pieces)) w.domains;
}

-- the run's elements name its points, and no more of them were there at the opening than there are
pub record NamesItsPoints (r : DomainRun) : Type 0 where
  pub opened : r.opened ≤ length r.points
  pub corners : All (λ a. All (All (IsNumberTo (length r.points))) a.elements) r.applications

-- the edge row joins points with numbers from 1 to n
pub record RowJoins (n : ℕ) (row : EdgeRow) : Type 0 where
  pub start : IsNumberTo n row.a
  pub finish : IsNumberTo n row.b
