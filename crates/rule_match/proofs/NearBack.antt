-- The law Near, by numbers: near a line a later state is as an earlier one, so what is a candidate on it later was one before.
-- By places this is state_law's law; here a candidate by places is one by numbers again, since different numbers have different places.
use Rattle.std.proofs.Common.{◌≡◌, ℕ, zero, suc, ◌-◌, ◌<◌, ◌≤◌, ◌⊎◌, inl, inr, true, List, [], ◌∷◌, ◌++◌, length, map, slice_index_or, refl, sym, ap, ◌∙◌, subst, arith, length-append, nat_eq, pos, ◌<ℤ◌, slice_get, Some}
use Rattle.std.specs.List.{AllByRecursion, Any, Contains, IsDistinct}
use Rattle.std.proofs.lemmas.List.{get_or_append_left}
use Rattle.std.proofs.lemmas.List.Elements.{All-from_recursion, All-get_or}
use Rattle.grid_geom.specs.Bounds.{IsOnGrid}
use Rattle.grid_geom.specs.Plane.{orient}
use Rattle.grid_geom.specs.declared.Point.{Point}
use Rattle.grid_geom.specs.declared.Edge.{Edge}
use Rattle.grid_geom.specs.Line.{whole}
use Rattle.grid_geom.specs.Closed.{same_point}
use Rattle.grid_geom.specs.Polygon.{IsInPolygon, IsApart, IsStrictlyConvex}
use Rattle.wind_law.proofs.ClosedSums.{point_test}
use Rattle.rule_reader.specs.declared.rule.Rule.{Rule}
use Rattle.rule_reader.specs.declared.rule.MapLine.{MapLine}
use Rattle.rule_reader.specs.Normal.{IsRule, IsMapLine, Names}
use Rattle.rule_maps.specs.Frame.{LocalFrame, IsFrame, IsFrameOf, IsInRange}
use Rattle.size_field.specs.Size.{SizeField, size_at}
use Rattle.rule_maps.proofs.Frames.{one_frame}
use Rattle.rule_maps.specs.Places.{Mapping}
use Rattle.rule_maps.specs.Reach.{Covers}
use Rattle.state_law.specs.Free.{IsIn}
use Rattle.state_law.specs.Saved.{AreInBox, IsCorner}
use Rattle.state_law.specs.Saved as saved
use Rattle.state_law.specs.State.{State, point_at, pair_edge, front_edges, corners_of, IsListed, IsNumbered}
use Rattle.state_law.specs.Refusal as refusal
use Rattle.state_law.proofs.Lists.{all_map}
use Rattle.state_law.proofs.Numbers.{same_number}
use Rattle.state_law.proofs.NearLaw.{near_candidate}
use Rattle.free_zone.specs.Zone.{zone_from}
use Rattle.rule_match.specs.Candidate.{Attempt, IsCandidate, nth, mapped, made, made_from, zone, mapped_pair, IsFrontPoint, IsFrontPair, IsMappedLine, local4, AreTolerated, IsLineTolerated}
use Rattle.rule_match.specs.Least.{IsOf, HasNone}
use Rattle.rule_match.specs.Near.{IsAlikeNear, IsCovered, IsCoveredAt, IsCoveredBy, IsStayingLine, reach_lo, reach_hi}
use Rattle.rule_maps.specs.Inert.{IsLive}
use Rattle.state_law.specs.Reach.{IsWithinReach}
use Rattle.rule_match.specs.Refused.{places_of, IsAllowed}
use Rattle.rule_match.proofs.Places.{allowed, by_places}
use Rattle.rule_match.proofs.WithinReach.{range_in, within_reach}

abbrev Triple : Type 0
Triple = ℕ × ℕ × ℕ

-- ---- numbers from places
one_number : (pts : List Point) (i j : ℕ) → IsDistinct same_point pts → IsListed (length pts) i → IsListed (length pts) j → point_at pts i ≡ point_at pts j → i ≡ j
one_number pts i j d li lj e = equal i j (sym (same_number pts i j d li lj) ∙ ap (same_point (point_at pts i)) (sym e) ∙ point_test.reflexive (point_at pts i))
  where
    equal : (i j : ℕ) → nat_eq i j ≡ true → i ≡ j
    equal i j h = grind arith

any_first : {X : Type 0} (P : X → Type 0) (x : X) (xs : List X) → P x → Any P (x ∷ xs)
any_first P x xs p = (0, x, omega arith, refl, p)

any_later : {X : Type 0} (P : X → Type 0) (x : X) (xs : List X) → Any P xs → Any P (x ∷ xs)
any_later P x xs a = (suc a.0, a.1, omega (arith, a.2), a.3, a.4)

abbrev LinesListed : ℕ → List Triple → Type 0
LinesListed n front = AllByRecursion (λ line. IsListed n line.1 × IsListed n line.2) front

module _ (pts : List Point) (different : IsDistinct same_point pts) where
  point_number : (front : List Triple) (n : ℕ) → LinesListed (length pts) front → IsListed (length pts) n → saved.IsFrontPoint (front_edges pts front) (point_at pts n) → Any (λ line. (line.1 ≡ n) ⊎ (line.2 ≡ n)) front
  point_number [] n l k h = absurd h
  point_number (line ∷ front) n l k (inl (inl e)) = any_first (λ line. (line.1 ≡ n) ⊎ (line.2 ≡ n)) line front (inl (one_number pts line.1 n different l.0.0 k (sym e)))
  point_number (line ∷ front) n l k (inl (inr e)) = any_first (λ line. (line.1 ≡ n) ⊎ (line.2 ≡ n)) line front (inr (one_number pts line.2 n different l.0.1 k (sym e)))
  point_number (line ∷ front) n l k (inr h) = any_later (λ line. (line.1 ≡ n) ⊎ (line.2 ≡ n)) line front (point_number front n l.1 k h)

  pair_number : (front : List Triple) (s : ℕ × ℕ) → LinesListed (length pts) front → IsListed (length pts) s.0 × IsListed (length pts) s.1 → IsIn (pair_edge pts s) (front_edges pts front) → Any (λ line. (line.1 ≡ s.0) × (line.2 ≡ s.1)) front
  pair_number [] s l k h = absurd h
  pair_number (line ∷ front) s l k (inl e) = any_first (λ line. (line.1 ≡ s.0) × (line.2 ≡ s.1)) line front
      (one_number pts line.1 s.0 different l.0.0 k.0 (ap (λ (z : Edge). z.a) e), one_number pts line.2 s.1 different l.0.1 k.1 (ap (λ (z : Edge). z.b) e))
  pair_number (line ∷ front) s l k (inr h) = any_later (λ line. (line.1 ≡ s.0) × (line.2 ≡ s.1)) line front (pair_number front s l.1 k h)

  pub corner_number : (ns : List ℕ) (n : ℕ) → AllByRecursion (IsListed (length pts)) ns → IsListed (length pts) n → IsCorner (point_at pts n) (corners_of pts ns) → Contains ns n
  corner_number [] n l k h = absurd h
  corner_number (m ∷ ns) n l k (inl e) = (0, omega arith, one_number pts m n different l.0 k e)
  corner_number (m ∷ ns) n l k (inr h) = let r = corner_number ns n l.1 k h in (suc r.0, omega (arith, r.1), r.2)

  abbrev pair_of : ℕ → ℕ → ℕ × ℕ
  pair_of a b = (a, b)

  pub line_number : (ns : List ℕ) (lines : List MapLine) (line : Triple) → AllByRecursion (λ l. IsListed (length pts) (mapped_pair ns l).0 × IsListed (length pts) (mapped_pair ns l).1) lines → IsListed (length pts) line.1 × IsListed (length pts) line.2
      → IsIn (pair_edge pts (line.1, line.2)) (map (λ l. pair_edge pts (mapped_pair ns l)) lines) → Any (λ l. mapped_pair ns l ≡ (line.1, line.2)) lines
  line_number ns [] line l k h = absurd h
  line_number ns (m ∷ lines) line l k (inl e) = any_first (λ l. mapped_pair ns l ≡ (line.1, line.2)) m lines
      (both (one_number pts (mapped_pair ns m).0 line.1 different l.0.0 k.0 (ap (λ (z : Edge). z.a) e)) (one_number pts (mapped_pair ns m).1 line.2 different l.0.1 k.1 (ap (λ (z : Edge). z.b) e)))
    where
      both : (mapped_pair ns m).0 ≡ line.1 → (mapped_pair ns m).1 ≡ line.2 → mapped_pair ns m ≡ (line.1, line.2)
      both p q = λ i. (p i, q i)
  line_number ns (m ∷ lines) line l k (inr h) = any_later (λ l. mapped_pair ns l ≡ (line.1, line.2)) m lines (line_number ns lines line l.1 k h)

pub contained_corner : (p : Point) (ps : List Point) → Contains ps p → IsCorner p ps
contained_corner p ps r = at ps r.0 r.1 r.2
  where
    at : (ps : List Point) (k : ℕ) → k < length ps → slice_index_or ps k p ≡ p → IsCorner p ps
    at [] k w e = absurd (omega (arith, w))
    at (q ∷ ps) zero w e = inl e
    at (q ∷ ps) (suc k) w e = inr (at ps k (omega (arith, w)) e)

-- what the k-th line's edge has
edge_at : (Q : Edge → Type 0) (pts : List Point) (front : List Triple) (k : ℕ) (line : Triple) → AllByRecursion Q (front_edges pts front) → k < length front → slice_index_or front k line ≡ line → Q (pair_edge pts (line.1, line.2))
edge_at Q pts [] k line h w e = absurd (omega (arith, w))
edge_at Q pts (other ∷ front) zero line h w e = subst (λ (l : Triple). Q (pair_edge pts (l.1, l.2))) e h.0
edge_at Q pts (other ∷ front) (suc k) line h w e = edge_at Q pts front k line h.1 (omega (arith, w)) e

-- from each line's edge to the line
lines_from : (Q : Edge → Type 0) (P : Triple → Type 0) (R : Triple → Type 0) (pts : List Point) (front : List Triple) → ((line : Triple) → R line → Q (pair_edge pts (line.1, line.2)) → P line) → AllByRecursion R front → AllByRecursion Q (front_edges pts front) → AllByRecursion P front
lines_from Q P R pts [] f r h = tt
lines_from Q P R pts (line ∷ front) f r h = (f line r.0 h.0, lines_from Q P R pts front f r.1 h.1)

-- from each number's place to the number
numbers_from_places : (Q : Point → Type 0) (P R : ℕ → Type 0) (pts : List Point) (ns : List ℕ) → ((n : ℕ) → R n → Q (point_at pts n) → P n) → AllByRecursion R ns → AllByRecursion Q (corners_of pts ns) → AllByRecursion P ns
numbers_from_places Q P R pts [] f r h = tt
numbers_from_places Q P R pts (n ∷ ns) f r h = (f n r.0 h.0, numbers_from_places Q P R pts ns f r.1 h.1)

pairs_from : (Q : Edge → Type 0) (P R : MapLine → Type 0) (pts : List Point) (ns : List ℕ) (lines : List MapLine) → ((l : MapLine) → R l → Q (pair_edge pts (mapped_pair ns l)) → P l) → AllByRecursion R lines → AllByRecursion Q (map (λ l. pair_edge pts (mapped_pair ns l)) lines) → AllByRecursion P lines
pairs_from Q P R pts ns [] f r h = tt
pairs_from Q P R pts ns (l ∷ lines) f r h = (f l r.0 h.0, pairs_from Q P R pts ns lines f r.1 h.1)

-- what is known of an attempt whose numbers are listed
pub record IsListedAttempt (st : State) (t : Attempt) : Type 0 where
  pub numbered : IsNumbered st
  pub points : AllByRecursion (IsListed (length st.points)) t.points
  pub lines : AllByRecursion (λ l. IsListed (length st.points) (mapped_pair t.points l).0 × IsListed (length st.points) (mapped_pair t.points l).1) t.text.lines

-- a candidate by places is one by numbers
pub by_numbers : (st : State) (t : Attempt) → IsListedAttempt st t → IsAllowed st t → refusal.IsCandidate (λ a. Unit {0}) st.points (front_edges st.points st.front) (places_of st t) → IsCandidate st t
by_numbers st t known a c = record {
  live = a.live;
  quality = a.quality;
  counted = a.counted;
  different = a.different;
  on_front = numbers_from_places (saved.IsFrontPoint (front_edges st.points st.front)) (IsFrontPoint st) (IsListed (length st.points)) st.points t.points (λ n l h. point_number st.points known.numbered.different st.front n known.numbered.lines_listed l h) known.points c.fits.points;
  in_range = a.in_range;
  at_start = a.at_start;
  at_end = a.at_end;
  at_lines = pairs_from (λ e. IsIn e (front_edges st.points st.front)) (λ l. IsFrontPair st (mapped_pair t.points l)) (λ l. IsListed (length st.points) (mapped_pair t.points l).0 × IsListed (length st.points) (mapped_pair t.points l).1) st.points t.points t.text.lines
      (λ l k h. pair_number st.points known.numbered.different st.front (mapped_pair t.points l) known.numbered.lines_listed k h) known.lines c.fits.lines;
  points_tolerated = a.points_tolerated;
  lines_tolerated = a.lines_tolerated;
  turned = a.turned;
  made_on_grid = a.made_on_grid;
  made_new = all_map (λ p. ¬ (IsCorner p st.points)) (λ p. ¬ (Contains st.points p)) (λ p n i. n (contained_corner p st.points i)) (made st t) c.at_new_places;
  made_different = a.made_different;
  zone_on_grid = a.zone_on_grid;
  zone_convex = a.zone_convex;
  no_point_in_zone = λ n f. by n f.1 (edge_at (λ e. refusal.IsEndFree (places_of st t) e.a × refusal.IsEndFree (places_of st t) e.b) st.points st.front f.0 f.1 c.no_point_in_zone f.2 f.3) (lines_at f.1 f.0 f.2 f.3) f.4;
  no_line_in_zone = lines_from (λ e. IsIn e (places_of st t).lines ⊎ IsApart e.a e.b (zone st t)) (λ line. IsMappedLine t line ⊎ IsApart (point_at st.points line.1) (point_at st.points line.2) (zone st t)) (λ line. IsListed (length st.points) line.1 × IsListed (length st.points) line.2) st.points st.front
      (λ line l h. elim h [ inl i ↦ inl (line_number st.points known.numbered.different t.points t.text.lines line known.lines l i) | inr i ↦ inr i ]) known.numbered.lines_listed c.no_line_in_zone;
  glued = c.glued;
}
  where
    lines_at : (line : Triple) (k : ℕ) → k < length st.front → slice_index_or st.front k line ≡ line → IsListed (length st.points) line.1 × IsListed (length st.points) line.2
    lines_at line k w e = at st.front k known.numbered.lines_listed w e
      where
        at : (front : List Triple) (k : ℕ) → LinesListed (length st.points) front → k < length front → slice_index_or front k line ≡ line → IsListed (length st.points) line.1 × IsListed (length st.points) line.2
        at [] k h w e = absurd (omega (arith, w))
        at (other ∷ front) zero h w e = subst (λ (l : Triple). IsListed (length st.points) l.1 × IsListed (length st.points) l.2) e h.0
        at (other ∷ front) (suc k) h w e = at front k h.1 (omega (arith, w)) e

    free : (n : ℕ) → IsListed (length st.points) n → refusal.IsEndFree (places_of st t) (point_at st.points n) → (Contains t.points n) ⊎ ¬ (IsInPolygon (whole (point_at st.points n)) (zone st t))
    free n l (inl i) = inl (corner_number st.points known.numbered.different t.points n known.points l i)
    free n l (inr i) = inr i

    by : (n : ℕ) (line : Triple) → refusal.IsEndFree (places_of st t) (point_at st.points line.1) × refusal.IsEndFree (places_of st t) (point_at st.points line.2) → IsListed (length st.points) line.1 × IsListed (length st.points) line.2
        → (line.1 ≡ n) ⊎ (line.2 ≡ n) → (Contains t.points n) ⊎ ¬ (IsInPolygon (whole (point_at st.points n)) (zone st t))
    by n line h l (inl e) = subst (λ (m : ℕ). (Contains t.points m) ⊎ ¬ (IsInPolygon (whole (point_at st.points m)) (zone st t))) e (free line.1 l.0 h.0)
    by n line h l (inr e) = subst (λ (m : ℕ). (Contains t.points m) ⊎ ¬ (IsInPolygon (whole (point_at st.points m)) (zone st t))) e (free line.2 l.1 h.1)

-- ---- from the later state to the earlier one
-- the k-th line's ends are listed
pub ends_listed : (n : ℕ) (front : List Triple) (k : ℕ) (line : Triple) → LinesListed n front → k < length front → slice_index_or front k line ≡ line → IsListed n line.1 × IsListed n line.2
ends_listed n [] k line h w e = absurd (omega (arith, w))
ends_listed n (other ∷ front) zero line h w e = subst (λ (l : Triple). IsListed n l.1 × IsListed n l.2) e h.0
ends_listed n (other ∷ front) (suc k) line h w e = ends_listed n front k line h.1 (omega (arith, w)) e

pub front_listed : (st : State) (n : ℕ) → IsNumbered st → IsFrontPoint st n → IsListed (length st.points) n
front_listed st n h f = by f.4 (ends_listed (length st.points) st.front f.0 f.1 h.lines_listed f.2 f.3)
  where
    by : (f.1.1 ≡ n) ⊎ (f.1.2 ≡ n) → IsListed (length st.points) f.1.1 × IsListed (length st.points) f.1.2 → IsListed (length st.points) n
    by (inl e) l = subst (IsListed (length st.points)) e l.0
    by (inr e) l = subst (IsListed (length st.points)) e l.1

pub kept_point : (pts more later : List Point) (n : ℕ) → later ≡ pts ++ more → IsListed (length pts) n → point_at later n ≡ point_at pts n
kept_point pts more later n e l = ap (λ (ps : List Point). point_at ps n) e ∙ get_or_append_left pts more (record { x = pos 0; y = pos 0 }) (n - 1) (below n (length pts) l.0 l.1)
  where
    below : (n m : ℕ) → 1 ≤ n → n ≤ m → n - 1 < m
    below n m l k = omega arith

pub still_listed : (pts more later : List Point) (n : ℕ) → later ≡ pts ++ more → IsListed (length pts) n → IsListed (length later) n
still_listed pts more later n e l = let count = length-append pts more in let longer = ap length e in (l.0, omega (arith, l.1))

-- a listed place that is an end of an earlier front line has a number of before
point_known : (pts more later : List Point) (front : List Triple) (n : ℕ) → later ≡ pts ++ more → IsDistinct same_point later → LinesListed (length pts) front → IsListed (length later) n → saved.IsFrontPoint (front_edges pts front) (point_at later n) → IsListed (length pts) n
point_known pts more later [] n e d l k h = absurd h
point_known pts more later (line ∷ front) n e d l k (inl (inl p)) = subst (IsListed (length pts)) (one_number later line.1 n d (still_listed pts more later line.1 e l.0.0) k (kept_point pts more later line.1 e l.0.0 ∙ sym p)) l.0.0
point_known pts more later (line ∷ front) n e d l k (inl (inr p)) = subst (IsListed (length pts)) (one_number later line.2 n d (still_listed pts more later line.2 e l.0.1) k (kept_point pts more later line.2 e l.0.1 ∙ sym p)) l.0.1
point_known pts more later (line ∷ front) n e d l k (inr h) = point_known pts more later front n e d l.1 k h

pub corners_kept : (pts more later : List Point) (ns : List ℕ) → later ≡ pts ++ more → AllByRecursion (IsListed (length pts)) ns → corners_of later ns ≡ corners_of pts ns
corners_kept pts more later [] e l = refl
corners_kept pts more later (n ∷ ns) e l = λ i. kept_point pts more later n e l.0 i ∷ corners_kept pts more later ns e l.1 i

abbrev ArePairsListed : ℕ → List ℕ → List MapLine → Type 0
ArePairsListed n ns lines = AllByRecursion (λ l. IsListed n (mapped_pair ns l).0 × IsListed n (mapped_pair ns l).1) lines

pub pairs_kept : (pts more later : List Point) (ns : List ℕ) (lines : List MapLine) → later ≡ pts ++ more → ArePairsListed (length pts) ns lines → map (λ l. pair_edge later (mapped_pair ns l)) lines ≡ map (λ l. pair_edge pts (mapped_pair ns l)) lines
pairs_kept pts more later ns [] e h = refl
pairs_kept pts more later ns (l ∷ lines) e h = λ i. record { a = kept_point pts more later (mapped_pair ns l).0 e h.0.0 i; b = kept_point pts more later (mapped_pair ns l).1 e h.0.1 i } ∷ pairs_kept pts more later ns lines e h.1 i

-- what the mapped points have the ends of mapped lines have
pub pairs_have : (P : ℕ → Type 0) (count : ℕ) (ns : List ℕ) (lines : List MapLine) → length ns ≡ count → AllByRecursion P ns → AllByRecursion (IsMapLine count) lines → AllByRecursion (λ l. P (mapped_pair ns l).0 × P (mapped_pair ns l).1) lines
pairs_have P count ns [] e l h = tt
pairs_have P count ns (m ∷ lines) e l h = ((at m.i h.0.i, at m.j h.0.j), pairs_have P count ns lines e l h.1)
  where
    at : (k : ℕ) → Names count k → P (nth ns k)
    at k i = All-get_or P ns (k - 1) 0 (below k count (length ns) i.0 i.1 e) (All-from_recursion P ns l)
      where
        below : (k m n : ℕ) → 0 < k → k ≤ m → n ≡ m → k - 1 < n
        below k m n l i e = omega (arith, e)

pub pairs_listed : (n count : ℕ) (ns : List ℕ) (lines : List MapLine) → length ns ≡ count → AllByRecursion (IsListed n) ns → AllByRecursion (IsMapLine count) lines → ArePairsListed n ns lines
pairs_listed n = pairs_have (IsListed n)

-- ---- the places of an attempt, from its mapped points
abbrev mapping_by : Attempt → List Point → Mapping
mapping_by t ms = record { frame = t.frame; rule = t.text; mapped = ms }

abbrev made_by : Attempt → List Point → List Point
made_by t ms = made_from (mapping_by t ms) 1 t.text.new_points

abbrev zone_by : Attempt → List Point → List Point
zone_by t ms = zone_from (mapping_by t ms) t.class 1 t.text.area

pub same_places : (st later : State) (t : Attempt) → mapped later t ≡ mapped st t → (places_of later t).lines ≡ (places_of st t).lines → places_of later t ≡ places_of st t
same_places st later t e f = λ i. record {
  mapped = e i;
  lines = f i;
  made = made_by t (e i);
  zone = zone_by t (e i);
  elements = map (corners_of (e i ++ made_by t (e i))) t.text.elements;
}

pub allowed_back : (st later : State) (t : Attempt) → mapped later t ≡ mapped st t → IsAllowed later t → IsAllowed st t
allowed_back st later t e a = record {
  live = a.live;
  quality = a.quality;
  counted = a.counted;
  different = a.different;
  in_range = subst (AllByRecursion (IsInRange t.frame)) e a.in_range;
  at_start = a.at_start;
  at_end = a.at_end;
  points_tolerated = subst (λ (ms : List Point). AreTolerated t.class (map (local4 t.frame) ms) t.text.points) e a.points_tolerated;
  lines_tolerated = subst (λ (ms : List Point). AllByRecursion (IsLineTolerated t.class (map (local4 t.frame) ms) t.text.points) t.text.lines) e a.lines_tolerated;
  turned = subst (λ (ms : List Point). AllByRecursion (λ n. pos 0 <ℤ orient (point_at ms n.0) (point_at ms n.1) (point_at ms n.2)) t.text.turns) e a.turned;
  made_on_grid = subst (λ (ms : List Point). AllByRecursion IsOnGrid (made_by t ms)) e a.made_on_grid;
  made_different = subst (λ (ms : List Point). IsDistinct same_point (made_by t ms)) e a.made_different;
  zone_on_grid = subst (λ (ms : List Point). AllByRecursion IsOnGrid (zone_by t ms)) e a.zone_on_grid;
  zone_convex = subst (λ (ms : List Point). IsStrictlyConvex (zone_by t ms)) e a.zone_convex;
}

-- ---- the law
-- a later candidate whose places lie in the reach by n was one before
back_by : (n : ℕ) (st later : State) (more : List Point) (t : Attempt) → IsRule t.text → IsWithinReach (reach_lo n t.frame) (reach_hi n t.frame) (places_of later t)
    → IsAlikeNear (reach_lo n t.frame) (reach_hi n t.frame) st later more → IsCandidate later t → IsCandidate st t
back_by n st later more t rule within h c =
    let front = front_edges st.points st.front in
    let placed = near_candidate (λ a. Unit {0}) (reach_lo n t.frame) (reach_hi n t.frame) st.points more front (front_edges later.points later.front) (places_of later t)
    h.front h.later_front h.alike within
    (subst (λ (ps : List Point). refusal.IsCandidate (λ a. Unit {0}) ps (front_edges later.points later.front) (places_of later t)) h.points (by_places later t c)) in
    let listed_later : AllByRecursion (IsListed (length later.points)) t.points = all_map (IsFrontPoint later) (IsListed (length later.points)) (λ m f. front_listed later m h.later_numbered f) t.points c.on_front in
    let listed : AllByRecursion (IsListed (length st.points)) t.points =
    numbers_from_places (saved.IsFrontPoint front) (IsListed (length st.points)) (IsListed (length later.points)) later.points t.points
    (λ m l f. point_known st.points more later.points st.front m h.points h.later_numbered.different h.numbered.lines_listed l f) listed_later placed.fits.points in
    let pairs = pairs_listed (length st.points) (length t.text.points) t.points t.text.lines c.counted listed rule.lines.1 in
    let same_mapped = corners_kept st.points more later.points t.points h.points listed in
    let places = same_places st later t same_mapped (pairs_kept st.points more later.points t.points t.text.lines h.points pairs) in
    by_numbers st t (record { numbered = h.numbered; points = listed; lines = pairs }) (allowed_back st later t same_mapped (allowed later t c))
    (subst (refusal.IsCandidate (λ a. Unit {0}) st.points front) places placed)

pub near_back : (n : ℕ) (st later : State) (more : List Point) (t : Attempt) → IsCovered n t → IsAlikeNear (reach_lo n t.frame) (reach_hi n t.frame) st later more → IsCandidate later t → IsCandidate st t
near_back n st later more t k h c = back_by n st later more t k.rule (within_reach n later t k.class k.frame k.rule k.covers c) h c

-- what covers a rule covers it at each class
pub covered_at : (class n : ℕ) (r : Rule) → IsCoveredBy n r → IsCoveredAt class n r
covered_at class n r h = record { rule = h.rule; mapped_in = mapped_in; within = within }
  where
    wide : (n : ℕ) → 13 ≤ n → 3 ≤ n
    wide n l = omega arith

    mapped_in : (st : State) (t : Attempt) → t.text ≡ r → IsAllowed st t → IsFrame t.frame → t.class ≤ class → AreInBox (reach_lo n t.frame) (reach_hi n t.frame) (mapped st t)
    mapped_in st t e a frame last = range_in n t.frame (mapped st t) frame (wide n (h.covers (subst IsLive e a.live)).least) a.in_range

    within : (st : State) (t : Attempt) → t.text ≡ r → IsCandidate st t → IsFrame t.frame → 1 ≤ t.class → t.class ≤ class → IsWithinReach (reach_lo n t.frame) (reach_hi n t.frame) (places_of st t)
    within st t e c frame first last = within_reach n st t first frame (subst IsRule (sym e) h.rule) (subst (λ (x : Rule). Covers x n) (sym e) (h.covers (subst IsLive e c.live))) c

-- a rule of a quality above the class is covered at it by any number
pub covered_above : (class n : ℕ) (r : Rule) → IsRule r → class < r.quality → IsCoveredAt class n r
covered_above class n r rule above = record {
  rule = rule;
  mapped_in = λ st t e a frame last. absurd (clash class r.quality t.class above last (subst (λ (x : Rule). x.quality ≤ t.class) e a.quality));
  within = λ st t e c frame first last. absurd (clash class r.quality t.class above last (subst (λ (x : Rule). x.quality ≤ t.class) e c.quality));
}
  where
    clash : (class quality tried : ℕ) → class < quality → tried ≤ class → quality ≤ tried → ⊥
    clash class quality tried a l q = omega arith

-- ---- a line that has none has none later
pub rule_at : (P : Rule → Type 0) (rules : List Rule) (k : ℕ) (r : Rule) → AllByRecursion P rules → slice_get rules k ≡ Some r → P r
rule_at P [] k r h e = absurd (cc)
rule_at P (x ∷ rules) zero r h e = let same : x ≡ r = cc in subst P same h.0
rule_at P (x ∷ rules) (suc k) r h e = rule_at P rules k r h.1 e

-- of two frames of one line, each at the size at its middle, one is the other
same_frame : (sizes : SizeField) (a b : Point) (f g : LocalFrame) → IsFrameOf a b (size_at sizes f.middle) f → IsFrameOf a b (size_at sizes g.middle) g → f ≡ g
same_frame sizes a b f g h k =
    let middle : g.middle ≡ f.middle = λ i. record { x = (k.middle_x ∙ sym h.middle_x) i; y = (k.middle_y ∙ sym h.middle_y) i } in
    one_frame a b (size_at sizes f.middle) f g h (subst (λ (p : Point). IsFrameOf a b (size_at sizes p) g) middle k)

-- an attempt on a line that stays is one of before, with the frame of before
pub of_before : (sizes : SizeField) (rules : List Rule) (class : ℕ) (st later : State) (more : List Point) (line : Triple) (f : LocalFrame) → later.points ≡ st.points ++ more → IsNumbered st → IsStayingLine sizes st later line f
    → (t : Attempt) → IsOf sizes later rules line.0 class t → IsOf sizes st rules line.0 class t × (f ≡ t.frame)
of_before sizes rules class st later more line f points numbered stays t o = (
  record {
    on_front = subst (Contains st.front) (sym same) stays.on_front;
    same_line = o.same_line;
    framed = subst (λ (l : Triple). IsFrameOf (point_at st.points l.1) (point_at st.points l.2) (size_at sizes t.frame.middle) t.frame) (sym same) framed;
    same_class = o.same_class;
    numbered = o.numbered;
    is_rule = o.is_rule;
  },
  same_frame sizes (point_at st.points line.1) (point_at st.points line.2) f t.frame stays.framed framed,
)
  where
    same : t.line ≡ line
    same = stays.same t.line o.on_front o.same_line

    ends : IsListed (length st.points) line.1 × IsListed (length st.points) line.2
    ends = ends_listed (length st.points) st.front stays.on_front.0 line numbered.lines_listed stays.on_front.1 stays.on_front.2

    framed : IsFrameOf (point_at st.points line.1) (point_at st.points line.2) (size_at sizes t.frame.middle) t.frame
    framed = subst (λ (p : Point). IsFrameOf p (point_at st.points line.2) (size_at sizes t.frame.middle) t.frame) (kept_point st.points more later.points line.1 points ends.0)
        (subst (λ (p : Point). IsFrameOf (point_at later.points line.1) p (size_at sizes t.frame.middle) t.frame) (kept_point st.points more later.points line.2 points ends.1)
        (subst (λ (l : Triple). IsFrameOf (point_at later.points l.1) (point_at later.points l.2) (size_at sizes t.frame.middle) t.frame) same o.framed))

pub none_later_at : (sizes : SizeField) (rules : List Rule) (n last class : ℕ) (st later : State) (more : List Point) (line : Triple) (f : LocalFrame) → 1 ≤ class → class ≤ last → AllByRecursion (IsCoveredAt last n) rules
    → IsStayingLine sizes st later line f → IsAlikeNear (reach_lo n f) (reach_hi n f) st later more → HasNone sizes st rules line.0 class → HasNone sizes later rules line.0 class
none_later_at sizes rules n last class st later more line f first not_after covered stays h none = record { none = each }
  where
    each : (t : Attempt) → IsOf sizes later rules line.0 class t → IsCandidate later t → ⊥
    each t o c =
        let before = of_before sizes rules class st later more line f h.points h.numbered stays t o in
        let by = rule_at (IsCoveredAt last n) rules (t.rule - 1) t.text covered o.is_rule in
        let within = by.within later t refl c (subst IsFrame before.1 stays.frame) (subst (λ (m : ℕ). 1 ≤ m) (sym o.same_class) first) (subst (λ (m : ℕ). m ≤ last) (sym o.same_class) not_after) in
        let near = subst (λ (g : LocalFrame). IsAlikeNear (reach_lo n g) (reach_hi n g) st later more) before.1 h in
        none.none t before.0 (back_by n st later more t by.rule within near c)

pub none_later : (sizes : SizeField) (rules : List Rule) (n class : ℕ) (st later : State) (more : List Point) (line : Triple) (f : LocalFrame) → 1 ≤ class → AllByRecursion (IsCoveredBy n) rules
    → IsStayingLine sizes st later line f → IsAlikeNear (reach_lo n f) (reach_hi n f) st later more → HasNone sizes st rules line.0 class → HasNone sizes later rules line.0 class
none_later sizes rules n class st later more line f first covered = none_later_at sizes rules n class class st later more line f first (level class) (all_map (IsCoveredBy n) (IsCoveredAt class n) (covered_at class n) rules covered)
  where
    level : (m : ℕ) → m ≤ m
    level m = omega arith
