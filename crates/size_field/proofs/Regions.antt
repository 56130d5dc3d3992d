-- The boundaries of domains in pieces are closed, and are regions: they wind 0 times or once round each point off their edges.
use Rattle.std.proofs.Common.{◌≡◌, ℕ, zero, suc, ◌+◌, ◌<◌, ◌==◌, Bool, true, false, cond, List, [], ◌∷◌, ◌++◌, map, length, Option, Some, None, refl, sym, ◌∙◌, subst, append_assoc, arith, inl, inr, ℤ, pos, ◌≤ℤ◌}
use Rattle.std.specs.List.{AllByRecursion, flat_map}
use Rattle.std.proofs.lemmas.Int.{ints}
use Rattle.std.proofs.lemmas.List.{length_push}
use Rattle.grid_geom.specs.declared.Point.{Point}
use Rattle.grid_geom.specs.declared.RatPoint.{RatPoint}
use Rattle.grid_geom.specs.declared.Edge.{Edge}
use Rattle.grid_geom.specs.Plane.{IsRational}
use Rattle.grid_geom.specs.Winding.{wind}
use Rattle.grid_geom.specs.Closed.{same_point, leaving, arriving, IsClosed, IsOff}
use Rattle.geom_check.specs.declared.kinds.Segment.{Segment}
use Rattle.geom_check.specs.Boundary.{edge_of, edges_of, boundary}
use Rattle.geom_check.specs.Accepted.{IsZeroOrOne}
use Rattle.geom_check.specs.Geometry.{PlanarMap, IsGeometry}
use Rattle.wind_law.specs.Chains.{edge}
use Rattle.state_law.specs.Region.{IsRegion}
use Rattle.state_law.proofs.Lists.{all_of}
use Rattle.state_law.proofs.Region.{region_opened, own_lines_two}
use Rattle.size_field.specs.declared.cutting.TheConstants.{MOST_HALVINGS}
use Rattle.size_field.specs.Boundary.{piece_boundary}
use Rattle.size_field.specs.Cutting.{cut_at, on_both_sides, parts, bound, parts_of, piece_of, pieces_from, pieces_of}
use Rattle.size_field.proofs.Rows.{segments_untangled}
use Rattle.size_field.proofs.Bounds.{turned_by, of_segment, segment_after, boundary_append, with_turned, pieces_wind, boundary_untangled}

-- ---- how often edges leave a point, less how often they arrive
leaving_append : (w : Point) (es fs : List Edge) → leaving w (es ++ fs) ≡ leaving w es + leaving w fs
leaving_append w [] fs = omega arith
leaving_append w (e ∷ es) fs = let rest = leaving_append w es fs in omega (arith, rest)

arriving_append : (w : Point) (es fs : List Edge) → arriving w (es ++ fs) ≡ arriving w es + arriving w fs
arriving_append w [] fs = omega arith
arriving_append w (e ∷ es) fs = let rest = arriving_append w es fs in omega (arith, rest)

-- the lists leave a point more often than they arrive there by the same number
pub record IsLike (w : Point) (es fs : List Edge) : Type 0 where
  pub balanced : leaving w es + arriving w fs ≡ arriving w es + leaving w fs

like_append : (w : Point) (es fs gs hs : List Edge) → IsLike w es fs → IsLike w gs hs → IsLike w (es ++ gs) (fs ++ hs)
like_append w es fs gs hs h k = record { balanced = omega (arith, h.balanced, k.balanced, leaving_append w es gs, arriving_append w es gs, leaving_append w fs hs, arriving_append w fs hs) }

-- an edge and its two parts
like_cut : (w a m b : Point) → IsLike w (edge a m ∷ edge m b ∷ []) (edge a b ∷ [])
like_cut w a m b = record { balanced = sums (cond (same_point a w) 1 0) (cond (same_point m w) 1 0) (cond (same_point b w) 1 0) }
  where
    sums : (x y z : ℕ) → x + (y + 0) + (z + 0) ≡ y + (z + 0) + (x + 0)
    sums x y z = omega arith

like_chain : (w : Point) (es fs gs : List Edge) → IsLike w es fs → IsLike w fs gs → IsLike w es gs
like_chain w es fs gs h k = record { balanced = omega (arith, h.balanced, k.balanced) }

like_itself : (w : Point) (es : List Edge) → IsLike w es es
like_itself w es = record { balanced = omega arith }

parts_like : (w : Point) (bound : Point → ℕ) (n : ℕ) (a b : Point) → IsLike w (parts bound n a b) (edge a b ∷ [])
unfolding parts
parts_like w bound zero a b = like_itself w (edge a b ∷ [])
parts_like w bound (suc n) a b = by (λ c d. parts_like w bound n c d) (cut_at bound a b)
  where
    by : ((c d : Point) → IsLike w (parts bound n c d) (edge c d ∷ [])) → (o : Option Point) → IsLike w (on_both_sides (parts bound n) a b o) (edge a b ∷ [])
    by each None = like_itself w (edge a b ∷ [])
    by each (Some m) =
        like_chain w (parts bound n a m ++ parts bound n m b) (edge a m ∷ edge m b ∷ []) (edge a b ∷ [])
        (like_append w (parts bound n a m) (edge a m ∷ []) (parts bound n m b) (edge m b ∷ []) (each a m) (each m b)) (like_cut w a m b)

-- ---- on the sides of a segment
both_ways : Bool → Bool → ℕ → ℕ → ℕ
both_ways true true x y = x + y
both_ways true false x y = x
both_ways false true x y = y
both_ways false false x y = 0

turned_leaving : (w : Point) (left right : Bool) (es : List Edge) → leaving w (flat_map (turned_by left right) es) ≡ both_ways left right (leaving w es) (arriving w es)
unfolding both_ways
turned_leaving w true true [] = refl
turned_leaving w true false [] = refl
turned_leaving w false true [] = refl
turned_leaving w false false [] = refl
turned_leaving w true true (e ∷ es) = let rest = turned_leaving w true true es in omega (arith, rest)
turned_leaving w true false (e ∷ es) = let rest = turned_leaving w true false es in omega (arith, rest)
turned_leaving w false true (e ∷ es) = let rest = turned_leaving w false true es in omega (arith, rest)
turned_leaving w false false (e ∷ es) = turned_leaving w false false es

turned_arriving : (w : Point) (left right : Bool) (es : List Edge) → arriving w (flat_map (turned_by left right) es) ≡ both_ways left right (arriving w es) (leaving w es)
unfolding both_ways
turned_arriving w true true [] = refl
turned_arriving w true false [] = refl
turned_arriving w false true [] = refl
turned_arriving w false false [] = refl
turned_arriving w true true (e ∷ es) = let rest = turned_arriving w true true es in omega (arith, rest)
turned_arriving w true false (e ∷ es) = let rest = turned_arriving w true false es in omega (arith, rest)
turned_arriving w false true (e ∷ es) = let rest = turned_arriving w false true es in omega (arith, rest)
turned_arriving w false false (e ∷ es) = turned_arriving w false false es

both_like : (left right : Bool) (x y u v : ℕ) → x + v ≡ y + u → both_ways left right x y + both_ways left right v u ≡ both_ways left right y x + both_ways left right u v
unfolding both_ways
both_like true true x y u v h = omega (arith, h)
both_like true false x y u v h = h
both_like false true x y u v h = omega (arith, h)
both_like false false x y u v h = refl

turned_like : (w : Point) (left right : Bool) (es fs : List Edge) → IsLike w es fs → IsLike w (flat_map (turned_by left right) es) (flat_map (turned_by left right) fs)
turned_like w left right es fs h = record {
  balanced =
      (λ i. turned_leaving w left right es i + turned_arriving w left right fs i)
      ∙ both_like left right (leaving w es) (arriving w es) (leaving w fs) (arriving w fs) h.balanced
      ∙ sym (λ i. turned_arriving w left right es i + turned_leaving w left right fs i);
}

one_turned : (left right : Bool) (e : Edge) → flat_map (turned_by left right) (e ∷ []) ≡ turned_by left right e
one_turned true true e = refl
one_turned true false e = refl
one_turned false true e = refl
one_turned false false e = refl

-- ---- all segments after some
like_after : (w : Point) (d : ℕ) (points : List Point) (cut : Segment → List Edge) (all before ss : List Segment) → all ≡ before ++ ss → AllByRecursion (λ s. IsLike w (cut s) (edge_of points s ∷ [])) ss
    → IsLike w (piece_boundary d all (pieces_from cut (length before + 1) ss)) (boundary points d ss)
like_after w d points cut all before [] h each = like_itself w []
like_after w d points cut all before (s ∷ ss) h each =
    let here : piece_boundary d all (map (piece_of (length before + 1)) (cut s)) ≡ flat_map (turned_by (s.left == d) (s.right == d)) (cut s) =
    of_segment d all s (length before + 1) (cut s) (λ a b. segment_after all before s ss a b h) in
    let rest : IsLike w (piece_boundary d all (pieces_from cut (length before + 1 + 1) ss)) (boundary points d ss) =
    subst (λ (n : ℕ). IsLike w (piece_boundary d all (pieces_from cut (n + 1) ss)) (boundary points d ss)) (length_push before s)
    (like_after w d points cut all (before ++ s ∷ []) ss (h ∙ sym (append_assoc before (s ∷ []) ss)) each.1) in
    let first : IsLike w (piece_boundary d all (map (piece_of (length before + 1)) (cut s))) (turned_by (s.left == d) (s.right == d) (edge_of points s)) =
    subst (λ (es : List Edge). IsLike w es (turned_by (s.left == d) (s.right == d) (edge_of points s))) (sym here)
    (subst (λ (es : List Edge). IsLike w (flat_map (turned_by (s.left == d) (s.right == d)) (cut s)) es) (one_turned (s.left == d) (s.right == d) (edge_of points s))
    (turned_like w (s.left == d) (s.right == d) (cut s) (edge_of points s ∷ []) each.0)) in
    subst (λ (es : List Edge). IsLike w es (boundary points d (s ∷ ss))) (sym (boundary_append d all (map (piece_of (length before + 1)) (cut s)) (pieces_from cut (length before + 1 + 1) ss)))
    (subst (λ (es : List Edge). IsLike w (piece_boundary d all (map (piece_of (length before + 1)) (cut s)) ++ piece_boundary d all (pieces_from cut (length before + 1 + 1) ss)) es) (sym (with_turned (s.left == d) (s.right == d) (edge_of points s) (boundary points d ss)))
    (like_append w (piece_boundary d all (map (piece_of (length before + 1)) (cut s))) (turned_by (s.left == d) (s.right == d) (edge_of points s)) (piece_boundary d all (pieces_from cut (length before + 1 + 1) ss)) (boundary points d ss) first rest))

pub pieces_closed : (g : PlanarMap) (greatest grading d : ℕ) → IsClosed (boundary g.points d g.segments) → IsClosed (piece_boundary d g.segments (pieces_of g greatest grading))
pieces_closed g greatest grading d closed = record {
  balanced = λ w. same (leaving w (piece_boundary d g.segments (pieces_of g greatest grading))) (arriving w (piece_boundary d g.segments (pieces_of g greatest grading)))
      (leaving w (boundary g.points d g.segments)) (arriving w (boundary g.points d g.segments)) (closed.balanced w)
      (like_after w d g.points (parts_of g greatest grading) g.segments [] g.segments refl
      (all_of (λ s. IsLike w (parts_of g greatest grading s) (edge_of g.points s ∷ [])) (λ s. parts_like w (bound g greatest grading s) MOST_HALVINGS (edge_of g.points s).a (edge_of g.points s).b) g.segments)).balanced;
}
  where
    same : (x y u v : ℕ) → u ≡ v → x + v ≡ y + u → x ≡ y
    same x y u v e h = omega (arith, e, h)

-- ---- regions
pub boundary_region : (g : PlanarMap) (greatest grading d : ℕ) → IsGeometry g → 0 < d → IsRegion (piece_boundary d g.segments (pieces_of g greatest grading))
boundary_region g greatest grading d h above =
    let untangled = boundary_untangled g greatest grading d h in
    region_opened (piece_boundary d g.segments (pieces_of g greatest grading)) (edges_of g.points g.segments) (segments_untangled g h).edges untangled.edges
    (pieces_closed g greatest grading d (h.planar.closed d above)) untangled.free
    (λ q kq off. subst IsZeroOrOne (sym (pieces_wind g greatest grading d q h kq)) (h.planar.winding d above q kq off))

one_of : {z : ℤ} → IsZeroOrOne z → pos 1 ≤ℤ z → z ≡ pos 1
one_of {z} (inl e) h = omega (arith, ints)
one_of {z} (inr e) h = e

-- no point off the edges of two domains is in both
pub boundaries_separate : (g : PlanarMap) (greatest grading c d : ℕ) → IsGeometry g → 0 < c → c < d → (q : RatPoint) → IsRational q →
    IsOff q (piece_boundary c g.segments (pieces_of g greatest grading)) → IsOff q (piece_boundary d g.segments (pieces_of g greatest grading)) →
    pos 1 ≤ℤ wind q (piece_boundary c g.segments (pieces_of g greatest grading)) → pos 1 ≤ℤ wind q (piece_boundary d g.segments (pieces_of g greatest grading)) → ⊥
boundaries_separate g greatest grading c d h first second =
    let above : 0 < d = omega (arith, first, second) in
    let in_c = boundary_untangled g greatest grading c h in let in_d = boundary_untangled g greatest grading d h in
    own_lines_two (piece_boundary c g.segments (pieces_of g greatest grading)) (piece_boundary d g.segments (pieces_of g greatest grading)) (edges_of g.points g.segments) (segments_untangled g h).edges
    in_c.edges (pieces_closed g greatest grading c (h.planar.closed c first)) in_d.edges (pieces_closed g greatest grading d (h.planar.closed d above))
    (λ q kq off f k. h.planar.separate q kq off (record {
      c = c;
      d = d;
      positive = first;
      ordered = second;
      in_c = one_of (h.planar.winding c first q kq off) (subst (λ (z : ℤ). pos 1 ≤ℤ z) (pieces_wind g greatest grading c q h kq) f);
      in_d = one_of (h.planar.winding d above q kq off) (subst (λ (z : ℤ). pos 1 ≤ℤ z) (pieces_wind g greatest grading d q h kq) k);
    }))
