-- The text of a vol file.
--     places d           how many decimals a coordinate has at the shift d
--     coordinate k x     a grid coordinate, with k decimals
--     element_row e      the line of an element
--     edge_row e         the line of a piece of a segment
--     point_row k p      the line of a point
--     counted f xs       how many xs there are, on a line, and the lines of the xs
--     vol_text m         the whole text of the mesh m
use Rattle.std.specs.Prelude.{ℕ, List, [], ◌∷◌, ◌++◌, length, ℤ, pos, negsuc, ◌+ℤ◌, ◌*ℤ◌, ◌≤ℤ◌, unsigned_abs, codes}
use Rattle.std.specs.List.{flat_map}
use Rattle.std.specs.Fmt.{decimal}
use Rattle.grid_geom.specs.declared.Point.{Point}
use Rattle.text_rows.specs.Rows.{row}
use Rattle.text_rows.specs.Fixed.{fixed}
use Rattle.vol_format.specs.declared.EdgeRow.{EdgeRow}
use Rattle.vol_format.specs.declared.MeshElement.{MeshElement}
use Rattle.vol_format.specs.declared.Mesh.{Mesh}

-- the shifts of geometries: from -6 to 8
pub record IsShift (d : ℤ) : Type 0 where
  pub least : negsuc 5 ≤ℤ d
  pub greatest : d ≤ℤ pos 8

-- how many decimals a coordinate has at the shift d
abbrev pub places : ℤ → ℕ
places d = unsigned_abs (d +ℤ pos 6)

-- a grid coordinate: 64 grid steps at the shift d are 10^-d, so that a grid step is 15625 units of
-- the last of d + 6 decimals
abbrev pub coordinate : ℕ → ℤ → List ℕ
coordinate k x = fixed (x *ℤ pos 15625) k

-- an element: its domain twice, two noughts, how many corners it has, and the corners
abbrev pub element_row : MeshElement → List ℕ
element_row e = row (decimal e.domain) (e.domain ∷ 0 ∷ 0 ∷ length e.corners ∷ e.corners)

-- a piece of a segment: its boundary condition, its two ends, the domains on its sides and its
-- segment twice, with noughts between them
abbrev pub edge_row : EdgeRow → List ℕ
edge_row e = row (decimal e.bc)
    (0 ∷ e.a ∷ e.b ∷ 0 ∷ 0 ∷ e.left ∷ e.right ∷ e.segment ∷ 0 ∷ e.segment ∷ 0 ∷ [])

-- a point: its two coordinates and a nought
abbrev pub point_row : ℕ → Point → List ℕ
point_row k p = coordinate k p.x ++ 32 ∷ [] ++ coordinate k p.y ++ 32 ∷ 48 ∷ 10 ∷ []

-- how many there are, on a line, and a line for each
abbrev pub counted : {X : Type 0} → (X → List ℕ) → List X → List ℕ
counted line xs = row (decimal (length xs)) [] ++ flat_map line xs

-- what stands before the elements
unfoldable pub heading : List ℕ
heading = codes "mesh3d\ndimension\n2\ngeomtype\n0\nsurfaceelements\n"

-- what stands before the edge rows
unfoldable pub edge_heading : List ℕ
edge_heading = codes "volumeelements\n0\nedgesegmentsgi2\n"

-- what stands before the points
unfoldable pub point_heading : List ℕ
point_heading = codes "points\n"

-- what stands after the points
unfoldable pub ending : List ℕ
ending = codes "endmesh\n"

-- the text of the vol file of a mesh
abbrev pub vol_text : Mesh → List ℕ
vol_text m = heading ++ counted element_row m.elements
    ++ edge_heading ++ counted edge_row m.edges
    ++ point_heading ++ counted (point_row (places m.shift)) m.points
    ++ ending
