-- On the grid the points of the squares have different places, and no two of their edges tangle.
use Rattle.std.proofs.Common.{◌≡◌, ℕ, ◌+◌, ◌-◌, ◌*◌, ◌/◌, ◌%◌, ◌<◌, ◌≤◌, List, ◌++◌, length, map, slice_index_or, inl, inr, sym, ◌∙◌, ap, subst, arith}
use Rattle.std.specs.List.{range_with_len}
use lib.IntN.{pos}
use Rattle.std.proofs.lemmas.Bool.{cases_lt}
use Rattle.std.proofs.lemmas.List.{get_or-map, length-map, length-append, get_or_append_left, get_or-append_right}
use Rattle.std.proofs.lemmas.List.FromFn.{length-map-range_with_len, get_or-map-range_with_len}
use Rattle.grid_geom.specs.declared.Point.{Point}
use Rattle.grid_geom.specs.declared.Edge.{Edge}
use Rattle.geom_check.specs.declared.kinds.Segment.{Segment}
use Rattle.geom_check.specs.Placed.{points_of}
use Rattle.geom_check.specs.Boundary.{edge_of, edges_of}
use Rattle.geom_check.specs.Accepted.{DoEdgesTangle, ArePlacesDifferent, AreApart}
use Rattle.wind_law.specs.Chains.{edge}
use Rattle.sample.proofs.Tables.{place_number}
use Rattle.sample.proofs.Coordinates.{lattice, unit_at, unit_positive}
use Rattle.sample.proofs.OnGrid.{points, count_points, point_item, across_at, up_at, edge_across, edge_up, across_edge, up_edge}
use Rattle.sample.proofs.LatticeEdges.{same_place, levels_tangle, uprights_tangle, level_upright_tangle}

-- the points and the segments on the grid
abbrev pub grid : ℕ → ℕ → List Point
grid s n = points_of (pos s) (points n)

abbrev pub all_across : ℕ → ℕ → List Segment
all_across s n = map (across_at s n) (range_with_len 0 (n * (n + 1)))

abbrev pub all_up : ℕ → ℕ → List Segment
all_up s n = map (up_at s n) (range_with_len 0 ((n + 1) * n))

abbrev pub segments : ℕ → ℕ → List Segment
segments s n = all_across s n ++ all_up s n

-- one number of a place
same_number : (c k l : ℕ) → k % c ≡ l % c → k / c ≡ l / c → k ≡ l
same_number c k l e f = let g : k / c * c ≡ l / c * c = ap (λ (z : ℕ). z * c) f in omega (arith, e, place_number c k, place_number c l)

pub places_different : (s n : ℕ) → ArePlacesDifferent (grid s n)
places_different s n i j t =
    let below : j < (n + 1) * (n + 1) = omega (arith, count_points s n, t.in_list) in
    let first : i < (n + 1) * (n + 1) = omega (arith, t.ordered) in
    let origin : Point = lattice 0 0 0 in
    let e = same_place (unit_at s) (i % (n + 1)) (i / (n + 1)) (j % (n + 1)) (j / (n + 1)) (unit_positive s) (sym (point_item s n i origin first) ∙ t.together origin ∙ point_item s n j origin below) in
    omega (arith, t.ordered, same_number (n + 1) i j e.0 e.1)

-- ---- the edges by their numbers
count_across : (s n : ℕ) → length (all_across s n) ≡ n * (n + 1)
count_across s n = length-map-range_with_len (across_at s n) 0 (n * (n + 1))

count_up : (s n : ℕ) → length (all_up s n) ≡ (n + 1) * n
count_up s n = length-map-range_with_len (up_at s n) 0 ((n + 1) * n)

count_segments : (s n : ℕ) → length (segments s n) ≡ n * (n + 1) + (n + 1) * n
count_segments s n = omega (arith, length-append (all_across s n) (all_up s n), count_across s n, count_up s n)

pub count_edges : (s n : ℕ) → length (edges_of (grid s n) (segments s n)) ≡ n * (n + 1) + (n + 1) * n
count_edges s n = length-map (segments s n) (edge_of (grid s n)) ∙ count_segments s n

item_across : (s n k : ℕ) (d : Edge) → 1 ≤ n → k < n * (n + 1) → slice_index_or (edges_of (grid s n) (segments s n)) k d ≡ edge_across (unit_at s) (k % n) (k / n)
item_across s n k d h j =
    get_or-map (edge_of (grid s n)) (segments s n) k (across_at s n 0) d (omega (arith, count_segments s n))
    ∙ ap (edge_of (grid s n)) (get_or_append_left (all_across s n) (all_up s n) (across_at s n 0) k (omega (arith, count_across s n)) ∙ get_or-map-range_with_len (across_at s n) 0 (n * (n + 1)) k k (across_at s n 0) j (omega arith))
    ∙ across_edge s n k h j

item_up : (s n k : ℕ) (d : Edge) → 1 ≤ n → n * (n + 1) ≤ k → k - n * (n + 1) < (n + 1) * n →
    slice_index_or (edges_of (grid s n) (segments s n)) k d ≡ edge_up (unit_at s) ((k - n * (n + 1)) % (n + 1)) ((k - n * (n + 1)) / (n + 1))
item_up s n k d h j b =
    let l : ℕ = k - n * (n + 1) in
    get_or-map (edge_of (grid s n)) (segments s n) k (across_at s n 0) d (omega (arith, count_segments s n))
    ∙ ap (edge_of (grid s n)) (get_or-append_right (all_across s n) (all_up s n) (n * (n + 1)) k (across_at s n 0) (count_across s n) j ∙ get_or-map-range_with_len (up_at s n) 0 ((n + 1) * n) l l (across_at s n 0) b (omega arith))
    ∙ up_edge s n l h b

tangle_as : (e f g h : Edge) → e ≡ g → f ≡ h → DoEdgesTangle e f → DoEdgesTangle g h
tangle_as e f g h a b t = subst (λ (z : Edge). DoEdgesTangle g z) b (subst (λ (z : Edge). DoEdgesTangle z f) a t)

some_edge : Edge
some_edge = edge (lattice 0 0 0) (lattice 0 0 0)

pub edges_apart : (s n : ℕ) → 1 ≤ n → AreApart (edges_of (grid s n) (segments s n))
edges_apart s n h i j t =
    let u : ℕ = unit_at s in
    let half : ℕ = n * (n + 1) in
    let below : j < half + (n + 1) * n = omega (arith, count_edges s n, t.in_list) in
    elim (cases_lt j half) [
      | inl b ↦
          let a : i < half = omega (arith, t.ordered) in
          let e = levels_tangle u (i % n) (i / n) (j % n) (j / n) (unit_positive s) (tangle_as _ _ _ _ (item_across s n i some_edge h a) (item_across s n j some_edge h b) (t.tangled some_edge)) in
          omega (arith, t.ordered, same_number n i j e.0 e.1)
      | inr b ↦ elim (cases_lt i half) [
        | inl a ↦ level_upright_tangle u (i % n) (i / n) ((j - half) % (n + 1)) ((j - half) / (n + 1)) (unit_positive s) (tangle_as _ _ _ _ (item_across s n i some_edge h a) (item_up s n j some_edge h b (omega arith)) (t.tangled some_edge))
        | inr a ↦
            let e = uprights_tangle u ((i - half) % (n + 1)) ((i - half) / (n + 1)) ((j - half) % (n + 1)) ((j - half) / (n + 1)) (unit_positive s) (tangle_as _ _ _ _ (item_up s n i some_edge h a (omega (arith, t.ordered))) (item_up s n j some_edge h b (omega arith)) (t.tangled some_edge)) in
            omega (arith, t.ordered, same_number (n + 1) (i - half) (j - half) e.0 e.1)
      ]
    ]
