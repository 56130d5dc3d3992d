-- Law Near: where two fronts have the same lines near a box and equal winding numbers in it, and the later one no greater area, each candidate of the later one with all its places in the box is a candidate of the earlier one.
-- Near lines pass from one front to the other, far lines hinder nothing (NearLines). Gluing an element in the box keeps the two fronts alike. Stands on NearLines, Refused and Glued.
use Prim.Native.Nat.{ℕ, ◌≤◌}
use lib.IntN.{ℤ, pos, ◌+ℤ◌, ◌-ℤ◌}
use lib.Signed.{◌≤ℤ◌}
use mathlib.Core.Path.{◌≡◌, sym, ◌∙◌, subst}
use mathlib.Core.List.{List, [], ◌∷◌, ◌++◌}
use mathlib.Core.Logic.{◌⊎◌, inl, inr}
use native.Mathlib.Omega.{arith}
use Rattle.std.proofs.lemmas.Int.{ints, clamps}
use Rattle.std.specs.List.{AllByRecursion}
use Rattle.grid_geom.specs.declared.Point.{Point}
use Rattle.grid_geom.specs.declared.RatPoint.{RatPoint}
use Rattle.grid_geom.specs.declared.Edge.{Edge}
use Rattle.grid_geom.specs.Plane.{IsRational}
use Rattle.grid_geom.specs.Line.{side, whole}
use Rattle.grid_geom.specs.Sides.{DoSpansMeet, DoBoxesMeet}
use Rattle.grid_geom.specs.Polygon.{sides, IsStrictlyConvex, IsInPolygon, IsApart}
use Rattle.grid_geom.specs.Area.{shoelace}
use Rattle.grid_geom.specs.Winding.{wind}
use Rattle.grid_geom.specs.Closed.{IsEdge}
use Rattle.wind_law.specs.Chains.{back, times}
use Rattle.wind_law.specs.Centre.{centre}
use Rattle.wind_law.proofs.Inside.{centre_in_polygon, centre_rational}
use Rattle.state_law.specs.Free.{IsIn}
use Rattle.state_law.specs.Net.{net}
use Rattle.state_law.specs.Gluing.{glue, IsClearOf, MayBeGlued, MayAllBeGlued}
use Rattle.state_law.specs.Saved.{AreInBox, IsCorner, IsFrontPoint}
use Rattle.state_law.specs.Refusal.{Attempt, IsEndFree, IsCandidate, IsFront}
use Rattle.state_law.specs.Reach.{IsInReach, AreAlikeIn, IsWithinReach}
use Rattle.state_law.proofs.Lists.{all_map, all_both, at_edge}
use Rattle.state_law.proofs.Glued.{glued_wind, glued_area, glued_net}
use Rattle.state_law.proofs.Counts.{in_or_not, in_by_times, times_some, times_not_in, times_most, net_in}
use Rattle.state_law.proofs.Saved.{at_corner}
use Rattle.state_law.proofs.Hanging.{each_in}
use Rattle.state_law.proofs.Applied.{HasEnd, end_of}
use Rattle.state_law.proofs.Refused.{front_after, still_corner}
use Rattle.state_law.proofs.Foreign.{is_front_point}
use Rattle.state_law.proofs.Boxes.{kept_left, minus_times, at_right, at_left, at_up, at_down, right_from, left_from, up_from, down_from}
use Rattle.state_law.proofs.NearLines.{IsPlaced, boxes_or_not, placed, start_meets, end_meets, far_apart, far_clear}

-- ---- two fronts, by numbers of edges
record IsLike (lo hi : Point) (front after : List Edge) : Type 0 where
  nets : (e : Edge) → DoBoxesMeet e.a e.b lo hi → net e front ≡ net e after
  winds : (q : RatPoint) → IsRational q → IsInReach lo hi q → wind q front ≡ wind q after
  areas : shoelace after ≤ℤ shoelace front

span_turned : (u w y z : ℤ) → DoSpansMeet u w y z → DoSpansMeet w u y z
span_turned u w y z h = record { not_after = omega (arith, ints, clamps, h.not_after); not_before = omega (arith, ints, clamps, h.not_before) }

meets_back : (e : Edge) (lo hi : Point) → DoBoxesMeet e.a e.b lo hi → DoBoxesMeet (back e).a (back e).b lo hi
meets_back e lo hi h = record { columns = span_turned e.a.x e.b.x lo.x hi.x h.columns; rows = span_turned e.a.y e.b.y lo.y hi.y h.rows }

-- an edge that is in one exactly where in the other is there equally often
equal_times : (e : Edge) (front after : List Edge) → IsFront front → IsFront after → (IsIn e front → IsIn e after) → (IsIn e after → IsIn e front) → times e front ≡ times e after
equal_times e front after f g there back_there = elim (in_or_not e front) [
  | inl i ↦ one (times e front) (times e after) (times_some e front i) (times_most e front f.single) (times_some e after (there i)) (times_most e after g.single)
  | inr n ↦ times_not_in e front n ∙ sym (times_not_in e after (λ i. n (back_there i)))
]
  where
    one : (m n : ℕ) → 1 ≤ m → m ≤ 1 → 1 ≤ n → n ≤ 1 → m ≡ n
    one m n a b c d = omega arith

like_of : (lo hi : Point) (front after : List Edge) → IsFront front → IsFront after → AreAlikeIn lo hi front after → IsLike lo hi front after
like_of lo hi front after f g h = record {
  nets = λ e m. differ (times e front) (times (back e) front) (times e after) (times (back e) after) (equal_times e front after f g (h.kept e m) (h.known e m)) (equal_times (back e) front after f g (h.kept (back e) (meets_back e lo hi m)) (h.known (back e) (meets_back e lo hi m)));
  winds = h.winds;
  areas = h.areas;
}
  where
    differ : (a b c d : ℕ) → a ≡ c → b ≡ d → pos a -ℤ pos b ≡ pos c -ℤ pos d
    differ a b c d e f = omega (arith, ints)

like_on : (lo hi : Point) (front after : List Edge) (cs : List Point) → IsLike lo hi front after → IsLike lo hi (glue front cs) (glue after cs)
like_on lo hi front after cs h = record {
  nets = λ e m. less (net e front) (net e after) (net e (glue front cs)) (net e (glue after cs)) (net e (sides cs)) (glued_net e front (sides cs)) (glued_net e after (sides cs)) (h.nets e m);
  winds = λ q kq r. lower (wind q front) (wind q after) (wind q (glue front cs)) (wind q (glue after cs)) (wind q (sides cs)) (glued_wind q front (sides cs)) (glued_wind q after (sides cs)) (h.winds q kq r);
  areas = smaller (shoelace front) (shoelace after) (shoelace (glue front cs)) (shoelace (glue after cs)) (shoelace (sides cs)) (glued_area front (sides cs)) (glued_area after (sides cs)) h.areas;
}
  where
    less : (a b c d s : ℤ) → a ≡ c +ℤ s → b ≡ d +ℤ s → a ≡ b → c ≡ d
    less a b c d s e f g = omega (arith, ints)

    lower : (a b c d s : ℤ) → a ≡ s +ℤ c → b ≡ s +ℤ d → a ≡ b → c ≡ d
    lower a b c d s e f g = omega (arith, ints)

    smaller : (a b c d s : ℤ) → a ≡ s +ℤ c → b ≡ s +ℤ d → b ≤ℤ a → d ≤ℤ c
    smaller a b c d s e f g = omega (arith, ints)

some_times : (m n : ℕ) (z : ℤ) → pos 1 ≤ℤ z → z ≡ pos m -ℤ pos n → 1 ≤ m
some_times m n z h e = omega (arith, ints)

-- a near line of one is a line of the other
over : (lo hi : Point) (front after : List Edge) (e : Edge) → IsFront front → IsLike lo hi front after → DoBoxesMeet e.a e.b lo hi → IsIn e front → IsIn e after
over lo hi front after e f h m i = in_by_times e after (some_times (times e after) (times (back e) after) (net e front) (net_in e front (at_edge IsEdge e front f.edges i) f.single i) (h.nets e m))

back_over : (lo hi : Point) (front after : List Edge) (e : Edge) → IsFront after → IsLike lo hi front after → DoBoxesMeet e.a e.b lo hi → IsIn e after → IsIn e front
back_over lo hi front after e g h m i = in_by_times e front (some_times (times e front) (times (back e) front) (net e after) (net_in e after (at_edge IsEdge e after g.edges i) g.single i) (sym (h.nets e m)))

-- ---- points of a polygon in the box
polygon_in_reach : (lo hi : Point) (cs : List Point) (q : RatPoint) → IsStrictlyConvex cs → AreInBox lo hi cs → IsInPolygon q cs → IsInReach lo hi q
polygon_in_reach lo hi cs q v h i = record {
  right_of_least = omega (arith, ints, minus_times lo.x q.k, kept_left (right_from lo.x) cs q v (all_map (λ c. lo.x ≤ℤ c.x) (λ c. pos 0 ≤ℤ side (right_from lo.x) (whole c)) (at_right lo.x) cs h.right_of_least) i);
  left_of_greatest = omega (arith, ints, kept_left (left_from hi.x) cs q v (all_map (λ c. c.x ≤ℤ hi.x) (λ c. pos 0 ≤ℤ side (left_from hi.x) (whole c)) (at_left hi.x) cs h.left_of_greatest) i);
  above_least = omega (arith, ints, minus_times lo.y q.k, kept_left (up_from lo.y) cs q v (all_map (λ c. lo.y ≤ℤ c.y) (λ c. pos 0 ≤ℤ side (up_from lo.y) (whole c)) (at_up lo.y) cs h.above_least) i);
  below_greatest = omega (arith, ints, kept_left (down_from hi.y) cs q v (all_map (λ c. c.y ≤ℤ hi.y) (λ c. pos 0 ≤ℤ side (down_from hi.y) (whole c)) (at_down hi.y) cs h.below_greatest) i);
}

placed_of : (lo hi p : Point) → IsInReach lo hi (whole p) → IsPlaced p lo hi
placed_of lo hi p h = record { right_of_least = omega (arith, ints, h.right_of_least); left_of_greatest = omega (arith, ints, h.left_of_greatest); above_least = omega (arith, ints, h.above_least); below_greatest = omega (arith, ints, h.below_greatest) }

-- ---- elements
may_over : (lo hi : Point) (front after : List Edge) (cs : List Point) → IsFront front → IsLike lo hi front after → AreInBox lo hi cs → MayBeGlued cs after → MayBeGlued cs front
may_over lo hi front after cs f h b m = record {
  turned = m.turned;
  clear = each_in (IsClearOf cs) front (λ e i. elim (boxes_or_not e.a e.b lo hi) [
    | inl n ↦ at_edge (IsClearOf cs) e after m.clear (over lo hi front after e f h n i)
    | inr far ↦ far_clear lo hi cs e m.turned b (at_edge IsEdge e front f.edges i) far
  ]);
  within = h.winds (centre cs) (centre_rational cs m.turned) (polygon_in_reach lo hi cs (centre cs) m.turned b (centre_in_polygon cs m.turned)) ∙ m.within;
  covered = chained m.covered h.areas;
}
  where
    chained : {a b c : ℤ} → a ≤ℤ b → b ≤ℤ c → a ≤ℤ c
    chained {a} {b} {c} h i = omega (arith, ints)

all_over : (lo hi : Point) (front after : List Edge) (elements : List (List Point)) → IsFront front → IsFront after → IsLike lo hi front after → AllByRecursion (AreInBox lo hi) elements → MayAllBeGlued elements after → MayAllBeGlued elements front
all_over lo hi front after [] f g h b m = tt
all_over lo hi front after (cs ∷ elements) f g h b m = let first : MayBeGlued cs front = may_over lo hi front after cs f h b.0 m.0 in
    (first, all_over lo hi (glue front cs) (glue after cs) elements (front_after cs front first f) (front_after cs after m.0 g) (like_on lo hi front after cs h) b.1 m.1)

-- ---- the law
end_meets_box : (lo hi p : Point) (e : Edge) → (p ≡ e.a) ⊎ (p ≡ e.b) → IsPlaced p lo hi → DoBoxesMeet e.a e.b lo hi
end_meets_box lo hi p e (inl i) h = start_meets e.a e.b lo hi (subst (λ (z : Point). IsPlaced z lo hi) i h)
end_meets_box lo hi p e (inr i) h = end_meets e.a e.b lo hi (subst (λ (z : Point). IsPlaced z lo hi) i h)

pub near_candidate : (Allowed : Attempt → Type 0) (lo hi : Point) (points more : List Point) (front after : List Edge) (t : Attempt) → IsFront front → IsFront after → AreAlikeIn lo hi front after → IsWithinReach lo hi t → IsCandidate Allowed (points ++ more) after t → IsCandidate Allowed points front t
near_candidate Allowed lo hi points more front after t f g a w c = record {
  allowed = c.allowed;
  fits = record {
    points = all_both (λ p. IsPlaced p lo hi) (IsFrontPoint after) (IsFrontPoint front) (λ p x y. point_back p x (end_of p after y)) t.mapped (placed lo hi t.mapped w.mapped) c.fits.points;
    lines = all_both (λ e. IsCorner e.a t.mapped × IsCorner e.b t.mapped) (λ e. IsIn e after) (λ e. IsIn e front) (λ e x y. back_over lo hi front after e g h (start_meets e.a e.b lo hi (at_corner (λ p. IsPlaced p lo hi) e.a t.mapped (placed lo hi t.mapped w.mapped) x.0)) y) t.lines w.lines_join c.fits.lines;
  };
  at_new_places = all_map (λ p. ¬ (IsCorner p (points ++ more))) (λ p. ¬ (IsCorner p points)) (λ p n i. n (still_corner p points more i)) t.made c.at_new_places;
  no_point_in_zone = each_in (λ e. IsEndFree t e.a × IsEndFree t e.b) front (λ e i. elim (boxes_or_not e.a e.b lo hi) [
    | inl n ↦ at_edge (λ e. IsEndFree t e.a × IsEndFree t e.b) e after c.no_point_in_zone (over lo hi front after e f h n i)
    | inr far ↦ (inr (λ z. far (start_meets e.a e.b lo hi (in_zone e.a z))), inr (λ z. far (end_meets e.a e.b lo hi (in_zone e.b z))))
  ]);
  no_line_in_zone = each_in (λ e. IsIn e t.lines ⊎ IsApart e.a e.b t.zone) front (λ e i. elim (boxes_or_not e.a e.b lo hi) [
    | inl n ↦ at_edge (λ e. IsIn e t.lines ⊎ IsApart e.a e.b t.zone) e after c.no_line_in_zone (over lo hi front after e f h n i)
    | inr far ↦ inr (far_apart lo hi t.zone e w.zone_turned w.zone (at_edge IsEdge e front f.edges i) far)
  ]);
  glued = all_over lo hi front after t.elements f g h w.elements c.glued;
}
  where
    h : IsLike lo hi front after
    h = like_of lo hi front after f g a

    in_zone : (p : Point) → IsInPolygon (whole p) t.zone → IsPlaced p lo hi
    in_zone p z = placed_of lo hi p (polygon_in_reach lo hi t.zone (whole p) w.zone_turned w.zone z)

    point_back : (p : Point) → IsPlaced p lo hi → HasEnd p after → IsFrontPoint front p
    point_back p x r = is_front_point p r.line front (back_over lo hi front after r.line g h (end_meets_box lo hi p r.line r.at_end x) r.among) r.at_end
