-- What the strips say of a domain's winding number: where all risers are sound, the domain has winding numbers 0 and 1.
use Rattle.std.proofs.Common.{◌≡◌, ◌≢◌, ℕ, zero, suc, ◌<◌, ◌==◌, true, List, [], ◌∷◌, length, slice_index_or, sym, ◌∙◌, ap, subst, refl, arith}
use lib.IntN.{ℤ, pos, ◌+ℤ◌, ◌-ℤ◌, ◌*ℤ◌}
use lib.Signed.{◌<ℤ◌, ◌≤ℤ◌, lt_z, le_z}
use Rattle.std.proofs.lemmas.Int.{ints}
use Rattle.grid_geom.specs.declared.Point.{Point}
use Rattle.grid_geom.specs.declared.RatPoint.{RatPoint}
use Rattle.grid_geom.specs.Plane.{orient_rat, IsRational}
use Rattle.grid_geom.specs.Segment.{IsOnSegment}
use Rattle.grid_geom.specs.Line.{whole}
use Rattle.grid_geom.specs.Sides.{IsOnClosed}
use Rattle.grid_geom.specs.Winding.{and}
use Rattle.grid_geom.specs.Closed.{IsOff}
use Rattle.grid_geom.proofs.Ring.{var, num, ◌⊕◌, ◌⊖◌, ◌⊗◌, ring}
use Rattle.grid_geom.proofs.OnSegment.{on_closed}
use Rattle.geom_check.specs.declared.kinds.Segment.{Segment}
use Rattle.geom_check.specs.Boundary.{point_at, edges_of}
use Rattle.geom_check.specs.Accepted.{IsZeroOrOne, WindsAtMostOnce}
use Rattle.geom_check.specs.Risers.{upwards, downwards, risers_of, is_beside}
use Rattle.geom_check.specs.RiserOrder.{IsOffRisers, IsSoundAll}
use Rattle.geom_check.proofs.RiserWinding.{wind_is}
use Rattle.geom_check.proofs.FreeRisers.{risers_all}

-- a place of a riser's line at its heights is on its segment
on_riser : (a b : Point) (q : RatPoint) → pos 0 <ℤ q.k → (a.y *ℤ q.k) ≤ℤ q.y → q.y <ℤ (b.y *ℤ q.k) → orient_rat a b q ≡ pos 0 → IsOnSegment q (whole a) (whole b)
on_riser a b q k low high z = record {
  of_p = b.y *ℤ q.k -ℤ q.y;
  of_q = q.y -ℤ a.y *ℤ q.k;
  p_weight = weak (b.y *ℤ q.k) q.y high;
  q_weight = least (a.y *ℤ q.k) q.y low;
  weighted = both (a.y *ℤ q.k) q.y (b.y *ℤ q.k) low high;
  mean_x = sym (ring (a.x ∷ a.y ∷ b.x ∷ b.y ∷ q.x ∷ q.y ∷ q.k ∷ [])
      (var 6 ⊗ ((var 3 ⊗ var 6 ⊖ var 5) ⊗ var 0 ⊕ (var 5 ⊖ var 1 ⊗ var 6) ⊗ var 2))
      (var 4 ⊗ ((var 3 ⊗ var 6 ⊖ var 5) ⊗ num (pos 1) ⊕ (var 5 ⊖ var 1 ⊗ var 6) ⊗ num (pos 1)) ⊕ var 6 ⊗ ((var 2 ⊖ var 0) ⊗ (var 5 ⊖ var 1 ⊗ var 6) ⊖ (var 3 ⊖ var 1) ⊗ (var 4 ⊖ var 0 ⊗ var 6))) refl
      ∙ ap (λ (n : ℤ). q.x *ℤ ((b.y *ℤ q.k -ℤ q.y) *ℤ pos 1 +ℤ (q.y -ℤ a.y *ℤ q.k) *ℤ pos 1) +ℤ q.k *ℤ n) z
      ∙ nothing (q.x *ℤ ((b.y *ℤ q.k -ℤ q.y) *ℤ pos 1 +ℤ (q.y -ℤ a.y *ℤ q.k) *ℤ pos 1)) q.k);
  mean_y = ring (a.y ∷ b.y ∷ q.y ∷ q.k ∷ []) (var 2 ⊗ ((var 1 ⊗ var 3 ⊖ var 2) ⊗ num (pos 1) ⊕ (var 2 ⊖ var 0 ⊗ var 3) ⊗ num (pos 1))) (var 3 ⊗ ((var 1 ⊗ var 3 ⊖ var 2) ⊗ var 0 ⊕ (var 2 ⊖ var 0 ⊗ var 3) ⊗ var 1)) refl;
}
  where
    nothing : (m k : ℤ) → m +ℤ k *ℤ pos 0 ≡ m
    nothing m k = ring (m ∷ k ∷ []) (var 0 ⊕ var 1 ⊗ num (pos 0)) (var 0) refl

    weak : (m n : ℤ) → n <ℤ m → pos 0 ≤ℤ (m -ℤ n)
    weak m n h = omega (arith, ints)

    least : (m n : ℤ) → m ≤ℤ n → pos 0 ≤ℤ (n -ℤ m)
    least m n h = omega (arith, ints)

    both : (m n o : ℤ) → m ≤ℤ n → n <ℤ o → pos 0 <ℤ ((o -ℤ n) +ℤ (n -ℤ m))
    both m n o h j = omega (arith, ints)

segment_back : (q : RatPoint) (a b : Point) → IsOnSegment q (whole a) (whole b) → IsOnSegment q (whole b) (whole a)
segment_back q a b s = record {
  of_p = s.of_q;
  of_q = s.of_p;
  p_weight = s.q_weight;
  q_weight = s.p_weight;
  weighted = turned s.of_p s.of_q s.weighted;
  mean_x = ap (λ (n : ℤ). q.x *ℤ n) (sum s.of_q s.of_p) ∙ s.mean_x ∙ ap (λ (n : ℤ). q.k *ℤ n) (mean s.of_p s.of_q a.x b.x);
  mean_y = ap (λ (n : ℤ). q.y *ℤ n) (sum s.of_q s.of_p) ∙ s.mean_y ∙ ap (λ (n : ℤ). q.k *ℤ n) (mean s.of_p s.of_q a.y b.y);
}
  where
    turned : (m n : ℤ) → pos 0 <ℤ (m +ℤ n) → pos 0 <ℤ (n +ℤ m)
    turned m n h = omega (arith, ints)

    sum : (m n : ℤ) → m *ℤ pos 1 +ℤ n *ℤ pos 1 ≡ n *ℤ pos 1 +ℤ m *ℤ pos 1
    sum m n = ring (m ∷ n ∷ []) (var 0 ⊗ num (pos 1) ⊕ var 1 ⊗ num (pos 1)) (var 1 ⊗ num (pos 1) ⊕ var 0 ⊗ num (pos 1)) refl

    mean : (m n x y : ℤ) → m *ℤ x +ℤ n *ℤ y ≡ n *ℤ y +ℤ m *ℤ x
    mean m n x y = ring (m ∷ n ∷ x ∷ y ∷ []) (var 0 ⊗ var 2 ⊕ var 1 ⊗ var 3) (var 1 ⊗ var 3 ⊕ var 0 ⊗ var 2) refl

low_by : (m n o p : ℤ) → and (le_z m n) (lt_z o p) ≡ true → m ≤ℤ n
low_by m n o p e = grind (arith, ints)

high_by : (m n o p : ℤ) → and (le_z m n) (lt_z o p) ≡ true → o <ℤ p
high_by m n o p e = grind (arith, ints)

-- what is off the edges is off the risers
pub off_risers : (q : RatPoint) (points : List Point) (ss : List Segment) → IsRational q → IsOff q (edges_of points ss) → IsOffRisers q (risers_of points ss)
off_risers q points ss kq off = risers_all (λ r. is_beside q r ≡ true → orient_rat r.a r.b q ≢ pos 0) points ss (λ i d h. each (slice_index_or ss i d) (off_at ss off i d h))
  where
    off_at : (ss : List Segment) → IsOff q (edges_of points ss) → (i : ℕ) (d : Segment) → i < length ss → ¬ (IsOnClosed q (point_at points (slice_index_or ss i d).p) (point_at points (slice_index_or ss i d).q))
    off_at [] off i d h = absurd (omega arith)
    off_at (s ∷ ss) off zero d h = off.0
    off_at (s ∷ ss) off (suc i) d h = off_at ss off.1 i d (omega arith)

    each : (s : Segment) → ¬ (IsOnClosed q (point_at points s.p) (point_at points s.q)) → (is_beside q (upwards points s) ≡ true → orient_rat (upwards points s).a (upwards points s).b q ≢ pos 0) × (is_beside q (downwards points s) ≡ true → orient_rat (downwards points s).a (downwards points s).b q ≢ pos 0)
    each s n = (
      λ e z. n (on_closed (point_at points s.p) (point_at points s.q) q kq.positive (on_riser (point_at points s.p) (point_at points s.q) q kq.positive (low_by ((point_at points s.p).y *ℤ q.k) q.y q.y ((point_at points s.q).y *ℤ q.k) e) (high_by ((point_at points s.p).y *ℤ q.k) q.y q.y ((point_at points s.q).y *ℤ q.k) e) z)),
      λ e z. n (on_closed (point_at points s.p) (point_at points s.q) q kq.positive (segment_back q (point_at points s.q) (point_at points s.p) (on_riser (point_at points s.q) (point_at points s.p) q kq.positive (low_by ((point_at points s.q).y *ℤ q.k) q.y q.y ((point_at points s.p).y *ℤ q.k) e) (high_by ((point_at points s.q).y *ℤ q.k) q.y q.y ((point_at points s.p).y *ℤ q.k) e) z))),
    )

-- where the strips find no fault of a domain, it has winding numbers 0 and 1 at all places off the segments
pub sides_by : (points : List Point) (d : ℕ) (ss : List Segment) → IsSoundAll (λ n. n == d) (risers_of points ss) → WindsAtMostOnce points ss d
sides_by points d ss sound q kq off = subst (λ (n : ℤ). IsZeroOrOne n) (sym (wind_is q points d ss kq)) (sound q kq (off_risers q points ss kq off))
