-- All places of a candidate lie in the reach of its line: the mapped points, the corners of the zone and of the elements.
use Rattle.std.proofs.Common.{◌≡◌, ℕ, suc, ◌+◌, ◌-◌, ◌<◌, ◌≤◌, List, [], ◌∷◌, ◌++◌, length, map, refl, sym, ap, ◌∙◌, subst, arith, length-append, ℤ, neg_ℤ, ◌+ℤ◌, ◌-ℤ◌, ◌≤ℤ◌}
use Rattle.std.proofs.lemmas.Int.{ints}
use Rattle.std.specs.List.{AllByRecursion, Contains}
use Rattle.std.proofs.lemmas.List.{length-map}
use Rattle.std.proofs.lemmas.List.Elements.{All-from_recursion, All-get_or, Contains-get_or}
use Rattle.grid_geom.specs.declared.Point.{Point}
use Rattle.rule_reader.specs.declared.rule.Place.{Place}
use Rattle.rule_reader.specs.declared.rule.MapLine.{MapLine}
use Rattle.rule_reader.specs.Normal.{IsRule, IsMapLine, Names}
use Rattle.rule_maps.specs.Frame.{LocalFrame, IsFrame, IsInRange}
use Rattle.rule_maps.specs.Places.{Mapping, IsMapping}
use Rattle.rule_maps.specs.Inert.{HasBadZone}
use Rattle.rule_maps.specs.declared.reach.Leeway.{Leeway}
use Rattle.rule_maps.specs.Reach.{in_range, Covers, IsInReach}
use Rattle.rule_maps.proofs.InReach.{IsCoveredOn, all_in_range, mapped_in_reach, new_point_near, corner_near}
use Rattle.state_law.specs.State.{State, point_at, pair_edge, corners_of}
use Rattle.state_law.specs.Saved.{AreInBox, IsCorner}
use Rattle.state_law.specs.Reach.{IsWithinReach}
use Rattle.state_law.proofs.Lists.{all_append, all_map}
use Rattle.free_zone.specs.Zone.{zone_from}
use Rattle.rule_match.specs.Candidate.{Attempt, IsCandidate, nth, mapped, mapping, made, made_from, zone, mapped_pair}
use Rattle.rule_match.specs.Near.{widening, reach_lo, reach_hi}
use Rattle.rule_match.specs.Refused.{places_of}
use Rattle.rule_match.proofs.Places.{number_corner}

-- the place is in the closed box
pub record IsBoxed (lo hi p : Point) : Type 0 where
  pub right_of_least : lo.x ≤ℤ p.x
  pub left_of_greatest : p.x ≤ℤ hi.x
  pub above_least : lo.y ≤ℤ p.y
  pub below_greatest : p.y ≤ℤ hi.y

boxed : (lo hi : Point) (ps : List Point) → AllByRecursion (IsBoxed lo hi) ps → AreInBox lo hi ps
boxed lo hi ps h = record {
  right_of_least = all_map (IsBoxed lo hi) (λ c. lo.x ≤ℤ c.x) (λ c b. b.right_of_least) ps h;
  left_of_greatest = all_map (IsBoxed lo hi) (λ c. c.x ≤ℤ hi.x) (λ c b. b.left_of_greatest) ps h;
  above_least = all_map (IsBoxed lo hi) (λ c. lo.y ≤ℤ c.y) (λ c b. b.above_least) ps h;
  below_greatest = all_map (IsBoxed lo hi) (λ c. c.y ≤ℤ hi.y) (λ c b. b.below_greatest) ps h;
}

in_box : (n : ℕ) (f : LocalFrame) (p : Point) → IsInReach f n p → IsBoxed (reach_lo n f) (reach_hi n f) p
in_box n f p h = record {
  right_of_least = least (widening n f) p.x f.p1.x h.columns.least;
  left_of_greatest = greatest (widening n f) p.x f.p1.x h.columns.greatest;
  above_least = least (widening n f) p.y f.p1.y h.rows.least;
  below_greatest = greatest (widening n f) p.y f.p1.y h.rows.greatest;
}
  where
    least : (w x a : ℤ) → neg_ℤ w ≤ℤ (x -ℤ a) → (a -ℤ w) ≤ℤ x
    least w x a h = omega (arith, ints)

    greatest : (w x a : ℤ) → (x -ℤ a) ≤ℤ w → x ≤ℤ (a +ℤ w)
    greatest w x a h = omega (arith, ints)

-- what a rule uses on a line whose mapped points are within leeways with which n covers it
record IsCoveredMapping (leeways : List Leeway) (from n : ℕ) (m : Mapping) : Type 0 where
  by : IsCoveredOn m leeways from n
  good_zone : ¬ (HasBadZone m.rule)

abbrev InReach : ℕ → Mapping → Point → Type 0
InReach n m = IsBoxed (reach_lo n m.frame) (reach_hi n m.frame)

module _ (leeways : List Leeway) (from n : ℕ) (m : Mapping) (h : IsCoveredMapping leeways from n m) where
  made_in : (k : ℕ) (ps : List Place) → 1 ≤ k → k + length ps ≡ length m.rule.new_points + 1 → AllByRecursion (InReach n m) (made_from m k ps)
  made_in k [] l e = tt
  made_in k (p ∷ ps) l e = (in_box n m.frame _ (new_point_near m leeways from n h.by k l (omega (arith, e))), made_in (k + 1) ps (omega arith) (omega (arith, e)))

  zone_in : (class k : ℕ) (ps : List Place) → 1 ≤ class → 1 ≤ k → k + length ps ≡ length m.rule.area + 1 → AllByRecursion (InReach n m) (zone_from m class k ps)
  zone_in class k [] c l e = tt
  zone_in class k (p ∷ ps) c l e = (in_box n m.frame _ (corner_near m leeways from n h.by k class h.good_zone l (omega (arith, e)) c), zone_in class (k + 1) ps c (omega arith) (omega (arith, e)))

mapped_in : (n : ℕ) (f : LocalFrame) (ps : List Point) → IsFrame f → 3 ≤ n → AllByRecursion (IsInRange f) ps → AllByRecursion (IsBoxed (reach_lo n f) (reach_hi n f)) ps
mapped_in n f ps h l r = all_map (IsInRange f) (IsBoxed (reach_lo n f) (reach_hi n f)) (λ p i. in_box n f p (mapped_in_reach f n p h l i)) ps r

-- points in range lie in each reach from 3 on
pub range_in : (n : ℕ) (f : LocalFrame) (ps : List Point) → IsFrame f → 3 ≤ n → AllByRecursion (IsInRange f) ps → AreInBox (reach_lo n f) (reach_hi n f) ps
range_in n f ps h l r = boxed (reach_lo n f) (reach_hi n f) ps (mapped_in n f ps h l r)

-- the place with a number is one of the list's
named_in : (P : Point → Type 0) (ps : List Point) (ns : List ℕ) → AllByRecursion P ps → AllByRecursion (Names (length ps)) ns → AllByRecursion P (corners_of ps ns)
named_in P ps [] h l = tt
named_in P ps (n ∷ ns) h l = (All-get_or P ps (n - 1) _ (below n (length ps) l.0.0 l.0.1) (All-from_recursion P ps h), named_in P ps ns h l.1)
  where
    below : (n m : ℕ) → 0 < n → n ≤ m → n - 1 < m
    below n m l k = omega arith

pub all_named : (P : Point → Type 0) (ps : List Point) (els : List (List ℕ)) (count : ℕ) → length ps ≡ count → AllByRecursion P ps → AllByRecursion (λ e. (length e ≡ 3) × AllByRecursion (Names count) e) els → AllByRecursion (AllByRecursion P) (map (corners_of ps) els)
all_named P ps [] count e h l = tt
all_named P ps (ns ∷ els) count e h l = (named_in P ps ns h (subst (λ (m : ℕ). AllByRecursion (Names m) ns) (sym e) l.0.1), all_named P ps els count e h l.1)

pub made_count : (m : Mapping) (k : ℕ) (ps : List Place) → length (made_from m k ps) ≡ length ps
made_count m k [] = refl
made_count m k (p ∷ ps) = ap suc (made_count m (k + 1) ps)

-- the ends of mapped lines are mapped points
pub lines_in : (pts : List Point) (ns : List ℕ) (count : ℕ) (lines : List MapLine) → length ns ≡ count → AllByRecursion (IsMapLine count) lines
    → AllByRecursion (λ e. IsCorner e.a (corners_of pts ns) × IsCorner e.b (corners_of pts ns)) (map (λ l. pair_edge pts (mapped_pair ns l)) lines)
lines_in pts ns count [] e h = tt
lines_in pts ns count (l ∷ lines) e h = ((number_corner pts (nth ns l.i) ns (at l.i h.0.i), number_corner pts (nth ns l.j) ns (at l.j h.0.j)), lines_in pts ns count lines e h.1)
  where
    at : (k : ℕ) → Names count k → Contains ns (nth ns k)
    at k i = Contains-get_or ns (k - 1) 0 (below k count (length ns) i.0 i.1 e)
      where
        below : (k m n : ℕ) → 0 < k → k ≤ m → n ≡ m → k - 1 < n
        below k m n l i e = omega (arith, e)

-- a candidate's mapped points are points in range, as many as the rule maps
pub maps_of : (st : State) (t : Attempt) → IsFrame t.frame → IsRule t.text → IsCandidate st t → IsMapping (mapping st t)
maps_of st t frame rule c = record { frame = frame; rule = rule; count = length-map t.points (point_at st.points) ∙ c.counted; range = All-from_recursion (IsInRange t.frame) (mapped st t) c.in_range }

pub within_by : (leeways : List Leeway) (from n : ℕ) (st : State) (t : Attempt) → 3 ≤ n → 1 ≤ t.class → IsCoveredOn (mapping st t) leeways from n → IsCandidate st t → IsWithinReach (reach_lo n t.frame) (reach_hi n t.frame) (places_of st t)
within_by leeways from n st t wide class by c =
    let m = mapping st t in let P : Point → Type 0 = IsBoxed (reach_lo n t.frame) (reach_hi n t.frame) in let rule = by.maps.rule in
    let h : IsCoveredMapping leeways from n m = record { by = by; good_zone = c.live.good_zone } in
    let all = mapped_in n t.frame (mapped st t) by.maps.frame wide c.in_range in
    let new = made_in leeways from n m h 1 t.text.new_points (omega arith) (one_more (length t.text.new_points)) in
    record {
      mapped = boxed _ _ (mapped st t) all;
      lines_join = lines_in st.points t.points (length t.text.points) t.text.lines c.counted rule.lines.1;
      zone = boxed _ _ (zone st t) (zone_in leeways from n m h t.class 1 t.text.area class (omega arith) (one_more (length t.text.area)));
      zone_turned = c.zone_convex;
      elements = all_map (AllByRecursion P) (AreInBox (reach_lo n t.frame) (reach_hi n t.frame)) (λ ps a. boxed _ _ ps a) _
          (all_named P (mapped st t ++ made st t) t.text.elements (length t.text.points + length t.text.new_points)
          (length-append (mapped st t) (made st t) ∙ (λ i. (length-map t.points (point_at st.points) ∙ c.counted) i + made_count m 1 t.text.new_points i))
          (all_append P (mapped st t) (made st t) all new) rule.elements.1);
    }
  where
    one_more : (n : ℕ) → 1 + n ≡ n + 1
    one_more n = omega arith

-- with the leeways of points in range
pub within_reach : (n : ℕ) (st : State) (t : Attempt) → 1 ≤ t.class → IsFrame t.frame → IsRule t.text → Covers t.text n → IsCandidate st t → IsWithinReach (reach_lo n t.frame) (reach_hi n t.frame) (places_of st t)
within_reach n st t class frame rule covers c = let maps = maps_of st t frame rule c in
    within_by (map in_range t.text.points) 13 n st t (wide n covers.least) class (record { maps = maps; near = all_in_range (mapping st t) maps; covers = covers }) c
  where
    wide : (n : ℕ) → 13 ≤ n → 3 ≤ n
    wide n l = omega arith
