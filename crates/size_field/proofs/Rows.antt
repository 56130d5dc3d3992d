-- The segments of an accepted geometry: each has two ends on the grid, and no two of them tangle.
use Rattle.std.proofs.Common.{◌≡◌, ℕ, zero, suc, ◌-◌, ◌<◌, ◌≤◌, List, [], ◌∷◌, length, slice_index_or, All, pos, inl, inr, sym, ◌∙◌, arith}
use Rattle.std.specs.List.{AllByRecursion}
use Rattle.std.proofs.lemmas.List.{get_or_default}
use Rattle.std.proofs.lemmas.List.Elements.{recursion_from_All}
use Rattle.std.proofs.lemmas.Bool.{cases_order}
use Rattle.grid_geom.specs.declared.Point.{Point}
use Rattle.grid_geom.specs.declared.Edge.{Edge}
use Rattle.grid_geom.specs.Bounds.{IsOnGrid}
use Rattle.geom_check.specs.declared.kinds.Segment.{Segment}
use Rattle.geom_check.specs.Boundary.{edge_of, edges_of, point_at, IsSegmentOf}
use Rattle.geom_check.specs.Accepted.{ArePlacesDifferent, HasTwoEnds, AreApart}
use Rattle.geom_check.specs.Geometry.{PlanarMap, IsGeometry}
use Rattle.state_law.specs.Free.{AreFreeOf, DoEdgesTangle}
use Rattle.state_law.proofs.Lists.{all_both}
use Rattle.size_field.specs.Parts.{IsPart, AreUntangled}

-- two rows have two places
two_places : (points : List Point) (m n : ℕ) → ArePlacesDifferent points → 1 ≤ m → m ≤ length points → 1 ≤ n → n ≤ length points → ¬ (m ≡ n) → ¬ (point_at points m ≡ point_at points n)
two_places points m n places a b c d apart e = elim (cases_order m n) [
  | inl f ↦ apart f
  | inr r ↦ elim r [ inl l ↦ clash m n a l d e | inr l ↦ clash n m c l b (sym e) ]
]
  where
    clash : (m n : ℕ) → 1 ≤ m → m < n → n ≤ length points → point_at points m ≡ point_at points n → ⊥
    clash m n h l k e = places (m - 1) (n - 1) (record {
      ordered = omega arith;
      in_list = omega arith;
      together = λ x. get_or_default points (m - 1) x (record { x = pos 0; y = pos 0 }) (omega arith) ∙ e ∙ sym (get_or_default points (n - 1) x (record { x = pos 0; y = pos 0 }) (omega arith));
    })

row_on_grid : (points : List Point) (n : ℕ) → All IsOnGrid points → 1 ≤ n → n ≤ length points → IsOnGrid (point_at points n)
row_on_grid points n on_grid h k = on_grid (n - 1) (record { x = pos 0; y = pos 0 }) (omega arith)

segment_part : (points : List Point) (s : Segment) → ArePlacesDifferent points → All IsOnGrid points → IsSegmentOf (length points) s → HasTwoEnds s → IsPart (edge_of points s)
segment_part points s places on_grid j n = record {
  on_grid = record { a = row_on_grid points s.p on_grid j.p_least j.p_greatest; b = row_on_grid points s.q on_grid j.q_least j.q_greatest };
  two_ends = two_places points s.p s.q places j.p_least j.p_greatest j.q_least j.q_greatest n;
}

pub segments_parts : (g : PlanarMap) → IsGeometry g → AllByRecursion (λ s. IsPart (edge_of g.points s)) g.segments
segments_parts g h =
    all_both (IsSegmentOf (length g.points)) HasTwoEnds (λ s. IsPart (edge_of g.points s)) (λ s j n. segment_part g.points s h.planar.places h.on_grid j n) g.segments
    (recursion_from_All (IsSegmentOf (length g.points)) g.segments h.joined) (recursion_from_All HasTwoEnds g.segments h.planar.ends)

-- segments by their places in the list, and one after another
row_free : (e : Edge) (es : List Edge) → ((j : ℕ) → j < length es → ((d : Edge) → DoEdgesTangle e (slice_index_or es j d)) → ⊥) → AllByRecursion (λ f. ¬ (DoEdgesTangle e f)) es
row_free e [] h = tt
row_free e (f ∷ es) h = ((λ t. h zero (omega arith) (λ d. t)), row_free e es (λ j k t. h (suc j) (omega (arith, k)) t))

list_free : (es : List Edge) → AreApart es → AreFreeOf DoEdgesTangle es
list_free [] h = tt
list_free (e ∷ es) h = (
  row_free e es (λ j k t. h zero (suc j) (record { ordered = omega arith; in_list = omega (arith, k); tangled = t })),
  list_free es (λ i j t. h (suc i) (suc j) (record { ordered = omega (arith, t.ordered); in_list = omega (arith, t.in_list); tangled = t.tangled })),
)

edges_two : (points : List Point) (ss : List Segment) → AllByRecursion (λ s. IsPart (edge_of points s)) ss → AllByRecursion (λ e. ¬ (e.a ≡ e.b)) (edges_of points ss)
edges_two points [] h = tt
edges_two points (s ∷ ss) h = (h.0.two_ends, edges_two points ss h.1)

pub segments_untangled : (g : PlanarMap) → IsGeometry g → AreUntangled (edges_of g.points g.segments)
segments_untangled g h = record { edges = edges_two g.points g.segments (segments_parts g h); free = list_free (edges_of g.points g.segments) h.planar.apart }
