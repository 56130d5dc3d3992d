-- Edges that don't tangle give risers that share no inner point.
use Rattle.std.proofs.Common.{◌≡◌, ℕ, zero, suc, ◌<◌, Bool, true, false, List, [], ◌∷◌, length, slice_index_or, All, AllPairs, sym, ◌∙◌, ap, subst, refl, arith, ◌⊎◌, inl, inr}
use lib.IntN.{ℤ, pos}
use lib.Signed.{◌<ℤ◌, lt_z}
use Rattle.std.proofs.lemmas.Int.{ints}
use Rattle.std.proofs.lemmas.List.Kept.{AllPairs-cons}
use Rattle.grid_geom.specs.declared.Point.{Point}
use Rattle.grid_geom.specs.declared.RatPoint.{RatPoint}
use Rattle.grid_geom.specs.Plane.{orient}
use Rattle.grid_geom.specs.Sides.{DoCross, DoTangle, crossing}
use Rattle.grid_geom.proofs.Ring.{var, ◌⊖◌, ◌⊗◌, ring}
use Rattle.grid_geom.proofs.Signs.{ordered}
use Rattle.grid_geom.specs.Segment.{IsInnerTo}
use Rattle.grid_geom.proofs.InnerTangle.{inner_back, inner_tangles}
use Rattle.geom_check.specs.declared.kinds.Segment.{Segment}
use Rattle.geom_check.specs.declared.risers.Riser.{Riser}
use Rattle.geom_check.specs.Boundary.{point_at, edge_of}
use Rattle.geom_check.specs.Accepted.{DoEdgesTangle}
use Rattle.geom_check.specs.Risers.{with_riser, upwards, downwards, risers_of}
use Rattle.geom_check.specs.RiserOrder.{IsFree}
use Rattle.geom_check.proofs.RiserWinding.{lt_true, lt_false}

-- a segment turned round crosses the same segments
cross_turned : (a b c d : Point) → DoCross b a c d → DoCross a b c d
cross_turned a b c d h = record {
  ends_first = subst (λ (z : ℤ). z <ℤ pos 0) (ring (a.x ∷ a.y ∷ b.x ∷ b.y ∷ c.x ∷ c.y ∷ d.x ∷ d.y ∷ [])
      (((var 0 ⊖ var 2) ⊗ (var 5 ⊖ var 3) ⊖ (var 1 ⊖ var 3) ⊗ (var 4 ⊖ var 2)) ⊗ ((var 0 ⊖ var 2) ⊗ (var 7 ⊖ var 3) ⊖ (var 1 ⊖ var 3) ⊗ (var 6 ⊖ var 2)))
      (((var 2 ⊖ var 0) ⊗ (var 5 ⊖ var 1) ⊖ (var 3 ⊖ var 1) ⊗ (var 4 ⊖ var 0)) ⊗ ((var 2 ⊖ var 0) ⊗ (var 7 ⊖ var 1) ⊖ (var 3 ⊖ var 1) ⊗ (var 6 ⊖ var 0))) refl) h.ends_first;
  ends_second = subst (λ (z : ℤ). z <ℤ pos 0) (ring (orient c d a ∷ orient c d b ∷ []) (var 1 ⊗ var 0) (var 0 ⊗ var 1) refl) h.ends_second;
}

cross_swapped : (a b c d : Point) → DoCross a b c d → DoCross c d a b
cross_swapped a b c d h = record { ends_first = h.ends_second; ends_second = h.ends_first }

-- two segments that don't tangle, each either way round
pub record AreFree (a b c d : Point) : Type 0 where
  pub crossing : ¬ (DoCross a b c d)
  pub inner : (m : RatPoint) → pos 0 <ℤ m.k → IsInnerTo m a b → ¬ (IsInnerTo m c d)

free_edges : (a b c d : Point) → ¬ (a ≡ b) → ¬ (c ≡ d) → ¬ (DoTangle a b c d) → AreFree a b c d
free_edges a b c d n m t = record { crossing = λ x. t (crossing x); inner = λ q k h j. t (inner_tangles a b c d q n m k h j) }

turn_first : (a b c d : Point) → AreFree a b c d → AreFree b a c d
turn_first a b c d f = record { crossing = λ x. f.crossing (cross_turned a b c d x); inner = λ q k h j. f.inner q k (inner_back q b a h) j }

turn_second : (a b c d : Point) → AreFree a b c d → AreFree a b d c
turn_second a b c d f = record { crossing = λ x. f.crossing (cross_swapped c d a b (cross_turned c d a b (cross_swapped a b d c x))); inner = λ q k h j. f.inner q k h (inner_back q d c j) }

made : (r s : Riser) → AreFree r.a r.b s.a s.b → IsFree r s
made r s f = record { crossing = f.crossing; inner = f.inner }

-- what holds of each segment both ways round holds of its riser
pub risers_all : (P : Riser → Type 0) (points : List Point) (ss : List Segment) → All (λ s. P (upwards points s) × P (downwards points s)) ss → All P (risers_of points ss)
risers_all P points [] all = λ i d h. absurd (omega arith)
risers_all P points (s ∷ ss) all = both (lt_z (point_at points s.p).y (point_at points s.q).y) (lt_z (point_at points s.q).y (point_at points s.p).y) (risers_of points ss) (risers_all P points ss (λ i d h. all (suc i) d (omega arith))) (all 0 s (omega arith))
  where
    more : (r : Riser) (rs : List Riser) → P r → All P rs → All P (r ∷ rs)
    more r rs p all zero d h = p
    more r rs p all (suc i) d h = all i d (omega arith)

    both : (b c : Bool) (rs : List Riser) → All P rs → P (upwards points s) × P (downwards points s) → All P (with_riser b (upwards points s) (with_riser c (downwards points s) rs))
    both true true rs all p = more (upwards points s) (downwards points s ∷ rs) p.0 (more (downwards points s) rs p.1 all)
    both true false rs all p = more (upwards points s) rs p.0 all
    both false true rs all p = more (downwards points s) rs p.1 all
    both false false rs all p = all

-- two segments without a common inner point, each either way round
pub record AreFreeSegments (points : List Point) (s t : Segment) : Type 0 where
  pub free : AreFree (point_at points s.p) (point_at points s.q) (point_at points t.p) (point_at points t.q)

pub risers_free : (points : List Point) (ss : List Segment) → AllPairs (AreFreeSegments points) ss → AllPairs IsFree (risers_of points ss)
risers_free points [] all = λ i j d h k. absurd (omega arith)
risers_free points (s ∷ ss) all = by_height (ordered (point_at points s.p).y (point_at points s.q).y) (risers_free points ss (λ i j d h k. all (suc i) (suc j) d (omega arith) (omega arith)))
  where
    turned : (b c : Bool) → lt_z (point_at points s.p).y (point_at points s.q).y ≡ b → lt_z (point_at points s.q).y (point_at points s.p).y ≡ c → with_riser b (upwards points s) (with_riser c (downwards points s) (risers_of points ss)) ≡ risers_of points (s ∷ ss)
    turned b c f g = sym (ap (λ (x : Bool). with_riser x (upwards points s) (with_riser (lt_z (point_at points s.q).y (point_at points s.p).y) (downwards points s) (risers_of points ss))) f ∙ ap (λ (x : Bool). with_riser b (upwards points s) (with_riser x (downwards points s) (risers_of points ss))) g)

    pair : (i : ℕ) (d : Segment) → i < length ss → AreFree (point_at points s.p) (point_at points s.q) (point_at points (slice_index_or ss i d).p) (point_at points (slice_index_or ss i d).q)
    pair i d h = (all 0 (suc i) d (omega arith) (omega arith)).free

    ups : All (λ t. IsFree (upwards points s) (upwards points t) × IsFree (upwards points s) (downwards points t)) ss
    ups i d h = (made (upwards points s) (upwards points (slice_index_or ss i d)) (pair i d h), made (upwards points s) (downwards points (slice_index_or ss i d)) (turn_second (point_at points s.p) (point_at points s.q) (point_at points (slice_index_or ss i d).p) (point_at points (slice_index_or ss i d).q) (pair i d h)))

    downs : All (λ t. IsFree (downwards points s) (upwards points t) × IsFree (downwards points s) (downwards points t)) ss
    downs i d h = (
      made (downwards points s) (upwards points (slice_index_or ss i d)) (turn_first (point_at points s.p) (point_at points s.q) (point_at points (slice_index_or ss i d).p) (point_at points (slice_index_or ss i d).q) (pair i d h)),
      made (downwards points s) (downwards points (slice_index_or ss i d)) (turn_second (point_at points s.q) (point_at points s.p) (point_at points (slice_index_or ss i d).p) (point_at points (slice_index_or ss i d).q) (turn_first (point_at points s.p) (point_at points s.q) (point_at points (slice_index_or ss i d).p) (point_at points (slice_index_or ss i d).q) (pair i d h))),
    )

    by_height : ((point_at points s.p).y <ℤ (point_at points s.q).y) ⊎ (((point_at points s.p).y ≡ (point_at points s.q).y) ⊎ ((point_at points s.q).y <ℤ (point_at points s.p).y)) → AllPairs IsFree (risers_of points ss) → AllPairs IsFree (risers_of points (s ∷ ss))
    by_height (inl up) rest = subst (λ (rs : List Riser). AllPairs IsFree rs) (turned true false (lt_true (point_at points s.p).y (point_at points s.q).y up) (lt_false (point_at points s.q).y (point_at points s.p).y (omega (arith, ints)))) (AllPairs-cons IsFree (upwards points s) (risers_of points ss) (risers_all (IsFree (upwards points s)) points ss ups) rest)
    by_height (inr (inr down)) rest = subst (λ (rs : List Riser). AllPairs IsFree rs) (turned false true (lt_false (point_at points s.p).y (point_at points s.q).y (omega (arith, ints))) (lt_true (point_at points s.q).y (point_at points s.p).y down)) (AllPairs-cons IsFree (downwards points s) (risers_of points ss) (risers_all (IsFree (downwards points s)) points ss downs) rest)
    by_height (inr (inl level)) rest = subst (λ (rs : List Riser). AllPairs IsFree rs) (turned false false (lt_false (point_at points s.p).y (point_at points s.q).y (omega (arith, ints))) (lt_false (point_at points s.q).y (point_at points s.p).y (omega (arith, ints)))) rest

pub free_segments : (points : List Point) (s t : Segment) → ¬ (point_at points s.p ≡ point_at points s.q) → ¬ (point_at points t.p ≡ point_at points t.q) → ¬ (DoEdgesTangle (edge_of points s) (edge_of points t)) → AreFreeSegments points s t
free_segments points s t n m u = record { free = free_edges (point_at points s.p) (point_at points s.q) (point_at points t.p) (point_at points t.q) n m u }
