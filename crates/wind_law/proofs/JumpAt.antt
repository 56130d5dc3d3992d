-- Law Jump near a point as it is stated, by points: v is strictly between a and b, and an edge that the segment v-q does not meet is parted from it by a line.
-- Stands on JumpNear and Passage.
use lib.IntN.{ℤ, pos, ◌+ℤ◌, ◌-ℤ◌, ◌*ℤ◌}
use lib.Signed.{◌<ℤ◌, ◌≤ℤ◌}
use mathlib.Core.Path.{◌≡◌, refl, sym, ap, subst}
use mathlib.Core.Bool.{Bool, true, false}
use mathlib.Core.List.{List, [], ◌∷◌}
use mathlib.Core.Logic.{◌⊎◌, inl, inr}
use native.Mathlib.Omega.{arith}
use Rattle.std.proofs.lemmas.Int.{ints}
use Rattle.std.specs.List.{AllByRecursion}
use Rattle.grid_geom.specs.declared.Point.{Point}
use Rattle.grid_geom.specs.declared.RatPoint.{RatPoint}
use Rattle.grid_geom.specs.declared.Edge.{Edge}
use Rattle.grid_geom.specs.Plane.{orient_rat, IsRational}
use Rattle.grid_geom.specs.Line.{side, whole}
use Rattle.grid_geom.specs.Sides.{IsOnClosed}
use Rattle.grid_geom.specs.Segment.{IsOnSegment, DoMeet, IsSeparated}
use Rattle.grid_geom.specs.Polygon.{sides, IsInPolygon}
use Rattle.grid_geom.specs.Closed.{IsClosed, IsEdge}
use Rattle.grid_geom.proofs.Signs.{pos_mul_neg, lt_cancel}
use Rattle.grid_geom.proofs.Lines.{through_is}
use Rattle.grid_geom.proofs.Means.{side_mean, some_weight}
use Rattle.grid_geom.proofs.Meeting.{beyond, beyond_start, beyond_end, squared, squared_pos, separate_or_meet, on_back}
use Rattle.grid_geom.proofs.OnSegment.{on_segment, on_closed}
use Rattle.grid_geom.proofs.Near.{IsAhead, towards}
use Rattle.grid_geom.proofs.Polygon.{lines}
use Rattle.grid_geom.proofs.Convex.{lines_inside}
use Rattle.wind_law.specs.Chains.{edge, same_edge}
use Rattle.wind_law.specs.Near.{IsInClosure}
use Rattle.wind_law.specs.Passing.{IsMissed, IsRightAt, HasPointAcross}
use Rattle.wind_law.proofs.EdgeLines.{lines_directed}
use Rattle.wind_law.proofs.NearPoint.{off_edges, free_edges}
use Rattle.wind_law.proofs.Passage.{one_end, weight_first, differs}
use Rattle.wind_law.proofs.JumpNear.{IsBeside, IsHeld, same, back, held, IsAcross, jump_near}

-- ---- v is strictly between a and b
-- a mean, with some weight at the end where the line is negative, of values of which the other is 0
below : (x w k s t y z n : ℤ) → x *ℤ w ≡ k *ℤ (s *ℤ y +ℤ t *ℤ z) → y ≡ pos 0 -ℤ n → z ≡ pos 0 → pos 0 <ℤ w → pos 0 <ℤ k → pos 0 <ℤ s → pos 0 <ℤ n → x <ℤ pos 0
below x w k s t y z n e f g hw hk hs hn = lt_cancel x (pos 0) w hw (omega (arith, ints, e, pos_mul_neg k (s *ℤ y +ℤ t *ℤ z) hk (omega (arith, ints, pos_mul_neg s y hs (omega (arith, ints)), ap (λ (z : ℤ). t *ℤ z) g))))

before : (v : RatPoint) (a b : Point) (on : IsOnSegment v (whole a) (whole b)) → pos 0 <ℤ v.k → ¬ (a ≡ b) → pos 0 <ℤ on.of_p → side (beyond a b) v <ℤ pos 0
before v a b on kv n h = below (side (beyond a b) v) (on.of_p *ℤ pos 1 +ℤ on.of_q *ℤ pos 1) v.k on.of_p on.of_q (side (beyond a b) (whole a)) (side (beyond a b) (whole b)) (squared a b) (side_mean (beyond a b) v (whole a) (whole b) on) (beyond_start a b) (beyond_end a b)
    (some_weight on.of_p on.of_q (pos 1) (pos 1) on.p_weight on.q_weight on.weighted (omega (arith, ints)) (omega (arith, ints))) kv h (squared_pos a b n)

beside : (v q : RatPoint) (a b : Point) → IsRational v → IsRightAt v q a b → IsBeside v q a b
beside v q a b kv h = record {
  different = different;
  straight = h.on_edge.straight;
  before_b = before v a b on kv.positive different (weight_first v a b on h.not_b);
  after_a = before v b a back_on kv.positive (λ e. different (sym e)) (weight_first v b a back_on h.not_a);
  q_right = h.q_right;
}
  where
    different : ¬ (a ≡ b)
    different e = none h.q_right (one_end q a b e)
      where
        none : {z : ℤ} → z <ℤ pos 0 → z ≡ pos 0 → ⊥
        none {z} h e = omega (arith, ints)

    on : IsOnSegment v (whole a) (whole b)
    on = on_segment a b v different kv.positive h.on_edge

    back_on : IsOnSegment v (whole b) (whole a)
    back_on = on_back v (whole a) (whole b) on

-- ---- the other edges
held_edge : (v q : RatPoint) (a b : Point) (e : Edge) → IsRational v → IsRational q → IsEdge e → IsMissed v q a b e → IsHeld v q a b e
held_edge v q a b e kv kq n m = elim (same_edge e (edge a b)) as (λ (r : Bool). same_edge e (edge a b) ≡ r → IsHeld v q a b e) [
  | true ↦ λ i. same i
  | false ↦ λ i. elim (same_edge e (edge b a)) as (λ (r : Bool). same_edge e (edge b a) ≡ r → IsHeld v q a b e) [
    | true ↦ λ j. back j
    | false ↦ λ j. by_line (separate_or_meet v q e.a e.b n kv.positive kq.positive) (m (differs e (edge a b) i) (differs e (edge b a) j))
  ] refl
] refl
  where
    by_line : IsSeparated v q (whole e.a) (whole e.b) ⊎ DoMeet v q (whole e.a) (whole e.b) → ((m : RatPoint) → IsRational m → IsOnSegment m v q → ¬ (IsOnClosed m e.a e.b)) → IsHeld v q a b e
    by_line (inl s) x = held s.line s.c_right s.d_right s.p_left s.q_left
    by_line (inr d) x = absurd (x d.at (record { positive = d.rational }) d.on_first (on_closed e.a e.b d.at d.rational d.on_second))

held_edges : (v q : RatPoint) (a b : Point) (es : List Edge) → IsRational v → IsRational q → AllByRecursion IsEdge es → AllByRecursion (IsMissed v q a b) es → AllByRecursion (IsHeld v q a b) es
held_edges v q a b [] kv kq n m = tt
held_edges v q a b (e ∷ es) kv kq n m = (held_edge v q a b e kv kq n.0 m.0, held_edges v q a b es kv kq n.1 m.1)

-- ---- the polygon
pub towards_sides : (v z : RatPoint) (es : List Edge) → AllByRecursion (λ e. pos 0 ≤ℤ orient_rat e.a e.b v) es → AllByRecursion (λ e. pos 0 <ℤ orient_rat e.a e.b z) es → AllByRecursion (IsAhead v z) (lines es)
towards_sides v z [] h i = tt
towards_sides v z (e ∷ es) h i = (
  towards (subst (λ (y : ℤ). pos 0 ≤ℤ y) (sym (through_is e.a e.b v)) h.0) (subst (λ (y : ℤ). pos 0 <ℤ y) (sym (through_is e.a e.b z)) i.0),
  towards_sides v z es h.1 i.1,
)

pub jump_at : (v q z : RatPoint) (a b : Point) (corners : List Point) (es others : List Edge) → IsRational v → IsRational q → IsRational z → AllByRecursion IsEdge es → IsClosed es → IsRightAt v q a b → AllByRecursion (IsMissed v q a b) es
    → IsInClosure v corners → IsInPolygon z corners → pos 0 <ℤ orient_rat a b z → AllByRecursion IsEdge others → HasPointAcross v q a b corners es others
jump_at v q z a b corners es others kv kq kz n cl h m c i l o = result (jump_near v q z a b es (lines (sides corners)) (lines others) cl kv kq kz (beside v q a b kv h) l (held_edges v q a b es kv kq n m) (towards_sides v z (sides corners) c.left i.left) (lines_directed others o))
  where
    result : IsAcross v q a b (lines (sides corners)) (lines others) es → HasPointAcross v q a b corners es others
    result r = record {
      at = r.at;
      rational = r.rational;
      left = r.left;
      inside = record { left = lines_inside r.at (sides corners) r.inside };
      off = off_edges v r.at others r.clear;
      free = free_edges v r.at others kv r.clear;
      falls = r.jumps;
    }
