-- A mesh that was read is one that can be checked: its points are on the grid, and its numbers name them.
use Rattle.std.proofs.Common.{◌≡◌, ℕ, ◌≤◌, ◌<◌, ◌++◌, List, [], ◌∷◌, length}
use Rattle.std.specs.Prelude.{ℤ, All}
use Rattle.std.specs.List.{AllByRecursion, flat_map}
use Rattle.std.proofs.lemmas.List.Elements.{All-nil, All-cons}
use Rattle.grid_geom.specs.declared.Point.{Point}
use Rattle.grid_geom.specs.Bounds.{IsOnGrid}
use Rattle.vol_format.specs.declared.EdgeRow.{EdgeRow}
use Rattle.vol_format.specs.declared.MeshElement.{MeshElement}
use Rattle.vol_format.specs.declared.Mesh.{Mesh}
use Rattle.vol_format.specs.Text.{Item, Names, Known, Derives, element_items, edge_items, corner_items, edges_part, points_part}
use Rattle.state_law.specs.State.{IsListed}
use Rattle.mesh_check.specs.Parts.{NamesItsPoints, RowJoins}

-- what holds of all items before and behind
all_before : (P : Item → Type 0) (xs ys : List Item) → AllByRecursion P (xs ++ ys) → AllByRecursion P xs
all_before P [] ys all = tt
all_before P (x ∷ xs) ys all = (all.0, all_before P xs ys all.1)

all_behind : (P : Item → Type 0) (xs ys : List Item) → AllByRecursion P (xs ++ ys) → AllByRecursion P ys
all_behind P [] ys all = all
all_behind P (x ∷ xs) ys all = all_behind P xs ys all.1

-- the corners of an element
corners_named : (n : ℕ) (corners : List ℕ) → AllByRecursion (Names n) (corner_items corners) → All (IsListed n) corners
corners_named n [] all = All-nil (IsListed n)
corners_named n (p ∷ ps) all = All-cons (IsListed n) p ps (all.0) (corners_named n ps all.1)

elements_named : (n : ℕ) (elements : List MeshElement) → AllByRecursion (Names n) (flat_map element_items elements) → All (λ e. All (IsListed n) e.corners) elements
elements_named n [] all = All-nil (λ e. All (IsListed n) e.corners)
elements_named n (e ∷ es) all = All-cons (λ e. All (IsListed n) e.corners) e es
    (corners_named n e.corners (all_before (Names n) (corner_items e.corners) (flat_map element_items es) all.1.1.1.1.1))
    (elements_named n es (all_behind (Names n) (element_items e) (flat_map element_items es) all))

rows_named : (n : ℕ) (rows : List EdgeRow) → AllByRecursion (Names n) (flat_map edge_items rows) → All (RowJoins n) rows
rows_named n [] all = All-nil (RowJoins n)
rows_named n (row ∷ rows) all = All-cons (RowJoins n) row rows
    (record { start = all.1.1.0; finish = all.1.1.1.0 })
    (rows_named n rows (all_behind (Names n) (edge_items row) (flat_map edge_items rows) all))

points_there : (points : List Point) → AllByRecursion IsOnGrid points → All IsOnGrid points
points_there [] all = All-nil IsOnGrid
points_there (p ∷ ps) all = All-cons IsOnGrid p ps all.0 (points_there ps all.1)

pub names_its_points : (shift : ℤ) (words : List (List ℕ)) (m : Mesh) → Derives shift words m → Known m → NamesItsPoints m
names_its_points shift words m derived known =
    let n = length m.points in
    let counted = known.1.1.1.1.1.1 in
    let elements = all_before (Names n) (flat_map element_items m.elements) (edges_part m.edges m.points) counted.1 in
    let behind = all_behind (Names n) (flat_map element_items m.elements) (edges_part m.edges m.points) counted.1 in
    record {
      on_grid = points_there m.points derived.ranges.each_point;
      rows = rows_named n m.edges (all_before (Names n) (flat_map edge_items m.edges) (points_part m.points) behind.1.1.1.1);
      corners = elements_named n m.elements elements;
    }
