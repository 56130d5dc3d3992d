-- Far to the left of the grid every winding number is 0.
use Rattle.std.proofs.Common.{◌≡◌, ℕ, ◌≤◌, ◌==◌, Bool, true, false, List, [], ◌∷◌, length, All, Some, None, sym, ◌∙◌, arith}
use lib.IntN.{ℤ, pos, negsuc, ◌+ℤ◌, ◌*ℤ◌, neg_ℤ}
use lib.Signed.{◌<ℤ◌, ◌≤ℤ◌}
use Rattle.std.proofs.lemmas.Int.{ints}
use Rattle.std.proofs.lemmas.List.Elements.{recursion_from_All}
use Rattle.std.specs.List.{AllByRecursion}
use Rattle.grid_geom.specs.declared.Point.{Point}
use Rattle.grid_geom.specs.declared.Edge.{Edge}
use Rattle.grid_geom.specs.Plane.{IsRational}
use Rattle.grid_geom.specs.Line.{Line}
use Rattle.grid_geom.specs.Bounds.{IsOnGrid}
use Rattle.grid_geom.specs.Closed.{IsClosed}
use Rattle.wind_law.proofs.Beyond.{IsRightOf, wind_beyond}
use Rattle.geom_check.specs.declared.kinds.Segment.{Segment}
use Rattle.geom_check.specs.Boundary.{point_at, edge_of, back, with_edge, boundary, IsSegmentOf}
use Rattle.geom_check.specs.Accepted.{AreClosed}
use Rattle.geom_check.specs.Risers.{risers_of, is_chosen, winding_of}
use Rattle.geom_check.specs.RiserOrder.{far}
use Rattle.geom_check.proofs.RiserWinding.{wind_is}
use Rattle.geom_check.proofs.Together.{together, total_zero}
use Rattle.geom_check.proofs.EdgesTurned.{row_on_grid, risers_have_sides}
use Rattle.geom_check.specs.declared.limits.TheConstants.{MOST_DOMAINS}
use Rattle.grid_geom.specs.declared.TheConstants.{GRID}

-- the left end of the grid, with everything to its right
abbrev left_end : Line
left_end = record { a = negsuc 0; b = pos 0; c = neg_ℤ GRID }

boundary_right : (points : List Point) (d : ℕ) (ss : List Segment) → All IsOnGrid points → AllByRecursion (IsSegmentOf (length points)) ss → AllByRecursion (IsRightOf left_end) (boundary points d ss)
boundary_right points d [] on a = tt
boundary_right points d (s ∷ ss) on a = with_right (s.left == d) (edge_of points s) (with_edge (s.right == d) (back (edge_of points s)) (boundary points d ss)) (record { start_right = right s.p a.0.p_least a.0.p_greatest; end_right = right s.q a.0.q_least a.0.q_greatest })
    (with_right (s.right == d) (back (edge_of points s)) (boundary points d ss) (record { start_right = right s.q a.0.q_least a.0.q_greatest; end_right = right s.p a.0.p_least a.0.p_greatest }) (boundary_right points d ss on a.1))
  where
    right_by : (x y : ℤ) → neg_ℤ GRID ≤ℤ x → (negsuc 0 *ℤ x +ℤ pos 0 *ℤ y +ℤ neg_ℤ GRID *ℤ pos 1) ≤ℤ pos 0
    right_by x y h = omega (arith, ints)

    right : (row : ℕ) → 1 ≤ row → row ≤ length points → (negsuc 0 *ℤ (point_at points row).x +ℤ pos 0 *ℤ (point_at points row).y +ℤ neg_ℤ GRID *ℤ pos 1) ≤ℤ pos 0
    right row h k = right_by (point_at points row).x (point_at points row).y (row_on_grid points row on h k).x_within.least

    with_right : (b : Bool) (e : Edge) (es : List Edge) → IsRightOf left_end e → AllByRecursion (IsRightOf left_end) es → AllByRecursion (IsRightOf left_end) (with_edge b e es)
    with_right true e es h all = (h, all)
    with_right false e es h all = all

far_is_rational : (y : ℤ) → IsRational (far y)
far_is_rational y = record { positive = omega (arith, ints) }

-- far to the left of the grid a domain has the winding number 0
pub far_from_domain : (points : List Point) (d : ℕ) (ss : List Segment) (y : ℤ) → All IsOnGrid points → All (IsSegmentOf (length points)) ss → IsClosed (boundary points d ss) → winding_of (is_chosen (Some d)) (far y) (risers_of points ss) ≡ pos 0
far_from_domain points d ss y on joined closed = sym (wind_is (far y) points d ss (far_is_rational y)) ∙ wind_beyond left_end (far y) (boundary points d ss) (far_is_rational y) closed (beyond y) (boundary_right points d ss on (recursion_from_All (IsSegmentOf (length points)) ss joined))
  where
    beyond : (y : ℤ) → pos 0 <ℤ (negsuc 0 *ℤ neg_ℤ (pos 2 *ℤ (GRID +ℤ pos 1)) +ℤ pos 0 *ℤ y +ℤ neg_ℤ GRID *ℤ pos 2)
    beyond y = omega (arith, ints)

-- and so have all of them together
pub far_from_all : (points : List Point) (ss : List Segment) (y : ℤ) → All IsOnGrid points → All (IsSegmentOf (length points)) ss → AreClosed points ss → winding_of (is_chosen None) (far y) (risers_of points ss) ≡ pos 0
far_from_all points ss y on joined closed = together (far y) (risers_of points ss) MOST_DOMAINS (risers_have_sides points ss joined) ∙ total_zero (λ d. winding_of (is_chosen (Some d)) (far y) (risers_of points ss)) MOST_DOMAINS (λ d h k. far_from_domain points d ss y on joined (closed d h))
