-- Elements in a box leave a front alike in each box apart from it: their sides' boxes don't meet the other box, and they wind 0 times round its points.
use Rattle.std.proofs.Common.{◌≡◌, ℕ, ◌≤◌, inl, inr, List, [], ◌∷◌, length, refl, sym, ◌∙◌, arith, ℤ, pos, ◌+ℤ◌, ◌-ℤ◌, ◌*ℤ◌, ◌<ℤ◌, ◌≤ℤ◌}
use Rattle.std.proofs.lemmas.Int.{ints, clamps}
use Rattle.std.specs.List.{AllByRecursion}
use Rattle.grid_geom.specs.declared.Point.{Point}
use Rattle.grid_geom.specs.declared.RatPoint.{RatPoint}
use Rattle.grid_geom.specs.declared.Edge.{Edge}
use Rattle.grid_geom.specs.Plane.{IsRational}
use Rattle.grid_geom.specs.Line.{Line, side, whole}
use Rattle.grid_geom.specs.Sides.{DoSpansMeet, DoBoxesMeet}
use Rattle.grid_geom.specs.Polygon.{sides}
use Rattle.grid_geom.specs.Area.{shoelace}
use Rattle.grid_geom.specs.Winding.{wind}
use Rattle.grid_geom.specs.Closed.{IsEdge}
use Rattle.grid_geom.proofs.Signs.{either, le_cancel}
use Rattle.wind_law.specs.Chains.{back, times}
use Rattle.wind_law.proofs.Beyond.{IsRightOf, wind_beyond}
use Rattle.wind_law.proofs.Polygons.{sides_closed}
use Rattle.state_law.specs.Free.{IsIn}
use Rattle.state_law.specs.Net.{net}
use Rattle.state_law.specs.Kept.{all_sides}
use Rattle.state_law.specs.Gluing.{glue, glue_all, MayAllBeGlued}
use Rattle.state_law.specs.Saved.{AreInBox}
use Rattle.state_law.specs.Refusal.{IsFront}
use Rattle.state_law.specs.Reach.{IsInReach, AreAlikeIn}
use Rattle.state_law.proofs.Lists.{all_append, all_map, at_edge, side_ends}
use Rattle.state_law.proofs.Counts.{in_by_times, times_not_in, net_in}
use Rattle.state_law.proofs.Glued.{glued_wind}
use Rattle.state_law.proofs.Applied.{falls_all}
use Rattle.state_law.proofs.Refused.{all_net, front_after}
use Rattle.state_law.proofs.Boxes.{minus_times, right_from, left_from, up_from, down_from}
use Rattle.state_law.proofs.NearLines.{IsPlaced, placed}
use Rattle.rule_match.specs.Near.{AreBoxesApart, IsBox}

-- ---- an edge in the one box doesn't meet the other
span_above : (u w y z e : ℤ) → y ≤ℤ z → u ≤ℤ e → w ≤ℤ e → e <ℤ y → DoSpansMeet u w y z → ⊥
span_above u w y z e a b c d h = omega (arith, ints, clamps, h.not_before)

span_below : (u w y z e : ℤ) → y ≤ℤ z → e ≤ℤ u → e ≤ℤ w → z <ℤ e → DoSpansMeet u w y z → ⊥
span_below u w y z e a b c d h = omega (arith, ints, clamps, h.not_after)

far_edge : (lo hi elo ehi : Point) (e : Edge) → IsBox lo hi → AreBoxesApart lo hi elo ehi → IsPlaced e.a elo ehi × IsPlaced e.b elo ehi → DoBoxesMeet e.a e.b lo hi → ⊥
far_edge lo hi elo ehi e b (inl h) p m = span_above e.a.x e.b.x lo.x hi.x ehi.x b.columns p.0.left_of_greatest p.1.left_of_greatest h m.columns
far_edge lo hi elo ehi e b (inr (inl h)) p m = span_below e.a.x e.b.x lo.x hi.x elo.x b.columns p.0.right_of_least p.1.right_of_least h m.columns
far_edge lo hi elo ehi e b (inr (inr (inl h))) p m = span_above e.a.y e.b.y lo.y hi.y ehi.y b.rows p.0.below_greatest p.1.below_greatest h m.rows
far_edge lo hi elo ehi e b (inr (inr (inr h))) p m = span_below e.a.y e.b.y lo.y hi.y elo.y b.rows p.0.above_least p.1.above_least h m.rows

abbrev AreEndsIn : Point → Point → Edge → Type 0
AreEndsIn elo ehi e = IsPlaced e.a elo ehi × IsPlaced e.b elo ehi

sides_in : (elo ehi : Point) (elements : List (List Point)) → AllByRecursion (AreInBox elo ehi) elements → AllByRecursion (AreEndsIn elo ehi) (all_sides elements)
sides_in elo ehi [] h = tt
sides_in elo ehi (cs ∷ elements) h = all_append (AreEndsIn elo ehi) (sides cs) (all_sides elements) (side_ends (λ p. IsPlaced p elo ehi) cs (placed elo ehi cs h.0)) (sides_in elo ehi elements h.1)

-- ---- a polygon in the one box winds 0 times round the points of the other
less_times : (a b k : ℤ) → a <ℤ b → pos 0 <ℤ k → (a *ℤ k) <ℤ (b *ℤ k)
less_times a b k l p = elim (either (b *ℤ k) (a *ℤ k)) [ inl n ↦ absurd (clash (le_cancel b a k p n)) | inr n ↦ n ]
  where
    clash : b ≤ℤ a → ⊥
    clash n = omega (arith, ints)

right_of : (l : Line) (cs : List Point) → AllByRecursion (λ c. side l (whole c) ≤ℤ pos 0) cs → AllByRecursion (IsRightOf l) (sides cs)
right_of l cs h = all_map (λ e. (side l (whole e.a) ≤ℤ pos 0) × (side l (whole e.b) ≤ℤ pos 0)) (IsRightOf l) (λ e r. record { start_right = r.0; end_right = r.1 }) (sides cs) (side_ends (λ c. side l (whole c) ≤ℤ pos 0) cs h)

winds_none : (lo hi elo ehi : Point) (cs : List Point) (q : RatPoint) → AreBoxesApart lo hi elo ehi → AreInBox elo ehi cs → IsRational q → IsInReach lo hi q → wind q (sides cs) ≡ pos 0
winds_none lo hi elo ehi cs q (inl h) b kq r =
    wind_beyond (right_from ehi.x) q (sides cs) kq (sides_closed cs) (omega (arith, ints, minus_times ehi.x q.k, r.right_of_least, less_times ehi.x lo.x q.k h kq.positive))
    (right_of (right_from ehi.x) cs (all_map (λ c. c.x ≤ℤ ehi.x) (λ c. side (right_from ehi.x) (whole c) ≤ℤ pos 0) (λ c k. omega (arith, ints, k)) cs b.left_of_greatest))
winds_none lo hi elo ehi cs q (inr (inl h)) b kq r =
    wind_beyond (left_from elo.x) q (sides cs) kq (sides_closed cs) (omega (arith, ints, r.left_of_greatest, less_times hi.x elo.x q.k h kq.positive))
    (right_of (left_from elo.x) cs (all_map (λ c. elo.x ≤ℤ c.x) (λ c. side (left_from elo.x) (whole c) ≤ℤ pos 0) (λ c k. omega (arith, ints, k)) cs b.right_of_least))
winds_none lo hi elo ehi cs q (inr (inr (inl h))) b kq r =
    wind_beyond (up_from ehi.y) q (sides cs) kq (sides_closed cs) (omega (arith, ints, minus_times ehi.y q.k, r.above_least, less_times ehi.y lo.y q.k h kq.positive))
    (right_of (up_from ehi.y) cs (all_map (λ c. c.y ≤ℤ ehi.y) (λ c. side (up_from ehi.y) (whole c) ≤ℤ pos 0) (λ c k. omega (arith, ints, k)) cs b.below_greatest))
winds_none lo hi elo ehi cs q (inr (inr (inr h))) b kq r =
    wind_beyond (down_from elo.y) q (sides cs) kq (sides_closed cs) (omega (arith, ints, r.below_greatest, less_times hi.y elo.y q.k h kq.positive))
    (right_of (down_from elo.y) cs (all_map (λ c. elo.y ≤ℤ c.y) (λ c. side (down_from elo.y) (whole c) ≤ℤ pos 0) (λ c k. omega (arith, ints, k)) cs b.above_least))

winds_same : (lo hi elo ehi : Point) (elements : List (List Point)) (front : List Edge) (q : RatPoint) → AreBoxesApart lo hi elo ehi → AllByRecursion (AreInBox elo ehi) elements → IsRational q → IsInReach lo hi q → wind q front ≡ wind q (glue_all front elements)
winds_same lo hi elo ehi [] front q h b kq r = refl
winds_same lo hi elo ehi (cs ∷ elements) front q h b kq r =
    less (wind q front) (wind q (sides cs)) (wind q (glue front cs)) (glued_wind q front (sides cs)) (winds_none lo hi elo ehi cs q h b.0 kq r) ∙ winds_same lo hi elo ehi elements (glue front cs) q h b.1 kq r
  where
    less : (a s c : ℤ) → a ≡ s +ℤ c → s ≡ pos 0 → a ≡ c
    less a s c e f = omega (arith, ints, e, f)

-- ---- the fronts before and after
front_all : (front : List Edge) (elements : List (List Point)) → IsFront front → MayAllBeGlued elements front → IsFront (glue_all front elements)
front_all front [] f m = f
front_all front (cs ∷ elements) f m = front_all (glue front cs) elements (front_after cs front m.0 f) m.1

-- an edge that meets the box stands in both equally often, less its reverse
nets_same : (lo hi elo ehi : Point) (elements : List (List Point)) (front : List Edge) (e : Edge) → IsBox lo hi → AreBoxesApart lo hi elo ehi → AllByRecursion (AreInBox elo ehi) elements → DoBoxesMeet e.a e.b lo hi → net e front ≡ net e (glue_all front elements)
nets_same lo hi elo ehi elements front e box h b m =
    none (net e front) (net e (glue_all front elements)) (times e (all_sides elements)) (times (back e) (all_sides elements)) (all_net e elements front)
    (times_not_in e (all_sides elements) (λ i. far_edge lo hi elo ehi e box h (at_edge (AreEndsIn elo ehi) e (all_sides elements) (sides_in elo ehi elements b) i) m))
    (times_not_in (back e) (all_sides elements) (λ i. far_edge lo hi elo ehi e box h (turned (at_edge (AreEndsIn elo ehi) (back e) (all_sides elements) (sides_in elo ehi elements b) i)) m))
  where
    turned : AreEndsIn elo ehi (back e) → AreEndsIn elo ehi e
    turned p = (p.1, p.0)

    none : (a c : ℤ) (k l : ℕ) → a ≡ (pos k -ℤ pos l) +ℤ c → k ≡ 0 → l ≡ 0 → a ≡ c
    none a c k l e f g = omega (arith, ints, e, f, g)

over : (front after : List Edge) (e : Edge) → IsFront front → net e front ≡ net e after → IsIn e front → IsIn e after
over front after e f same i = in_by_times e after (some (times e after) (times (back e) after) (net e front) (net_in e front (at_edge IsEdge e front f.edges i) f.single i) same)
  where
    some : (m n : ℕ) (z : ℤ) → pos 1 ≤ℤ z → z ≡ pos m -ℤ pos n → 1 ≤ m
    some m n z h e = omega (arith, ints)

pub alike_after : (lo hi elo ehi : Point) (front : List Edge) (elements : List (List Point)) → IsBox lo hi → AreBoxesApart lo hi elo ehi → IsFront front → AllByRecursion (AreInBox elo ehi) elements → MayAllBeGlued elements front
    → AreAlikeIn lo hi front (glue_all front elements)
alike_after lo hi elo ehi front elements box h f b m =
    let after = glue_all front elements in let g = front_all front elements f m in
    record {
      kept = λ e meets i. over front after e f (nets_same lo hi elo ehi elements front e box h b meets) i;
      known = λ e meets i. over after front e g (sym (nets_same lo hi elo ehi elements front e box h b meets)) i;
      winds = λ q kq r. winds_same lo hi elo ehi elements front q h b kq r;
      areas = smaller (shoelace after) (length elements) (shoelace front) (falls_all front elements m);
    }
  where
    smaller : (a : ℤ) (n : ℕ) (c : ℤ) → (a +ℤ pos n) ≤ℤ c → a ≤ℤ c
    smaller a n c h = omega (arith, ints)
