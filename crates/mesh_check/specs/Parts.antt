-- What a mesh is made of, by the places of its points.
--
-- NamesItsPoints   the numbers in a mesh are those of its points, and its points are on the grid
-- polygons_in      the elements of a domain, each by its corners
-- row_edge         an edge row, from where it begins to where it ends
-- boundary_rows    the edge rows round a domain, each with the domain on its left
use Rattle.std.specs.Prelude.{ℕ, ◌==◌, List, [], ◌∷◌, length, map, filter, All}
use Rattle.grid_geom.specs.declared.Point.{Point}
use Rattle.grid_geom.specs.declared.Edge.{Edge}
use Rattle.grid_geom.specs.Bounds.{IsOnGrid}
use Rattle.state_law.specs.State.{IsListed, corners_of, pair_edge}
use Rattle.geom_check.specs.Boundary.{with_edge, back}
use Rattle.vol_format.specs.declared.EdgeRow.{EdgeRow}
use Rattle.vol_format.specs.declared.MeshElement.{MeshElement}
use Rattle.vol_format.specs.declared.Mesh.{Mesh}

-- the edge row joins two of n points
pub record RowJoins (n : ℕ) (row : EdgeRow) : Type 0 where
  pub start : IsListed n row.a
  pub finish : IsListed n row.b

-- the points are on the grid, and edge rows and elements name points by their numbers
pub record NamesItsPoints (m : Mesh) : Type 0 where
  pub on_grid : All IsOnGrid m.points
  pub rows : All (RowJoins (length m.points)) m.edges
  pub corners : All (λ e. All (IsListed (length m.points)) e.corners) m.elements

-- the elements of a domain, each by its corners
abbrev pub polygons_in : List Point → ℕ → List MeshElement → List (List Point)
polygons_in points domain elements =
    map (λ e. corners_of points e.corners) (filter (λ e. e.domain == domain) elements)

-- an edge row, from where it begins to where it ends
abbrev pub row_edge : List Point → EdgeRow → Edge
row_edge points row = pair_edge points (row.a, row.b)

-- each edge row with the domain on its left as it stands, each with the domain on its right reversed
abbrev pub boundary_rows : List Point → ℕ → List EdgeRow → List Edge
boundary_rows points domain [] = []
boundary_rows points domain (row ∷ rows) =
    with_edge (row.left == domain) (row_edge points row)
    (with_edge (row.right == domain) (back (row_edge points row))
    (boundary_rows points domain rows))
