-- An assignment of near points that meets each test stands for an attempt that meets the sentences of a candidate on points, lines and turns.
use Prim.Native.Nat.{ℕ, zero, suc, ◌+◌, ◌-◌, ◌<◌}
use lib.IntN.{ℤ, pos, ◌-ℤ◌}
use lib.Signed.{◌<ℤ◌}
use native.Mathlib.Omega.{arith}
use mathlib.Core.Path.{◌≡◌, refl, sym, subst, ap, ◌∙◌}
use mathlib.Core.Bool.{true≢false}
use mathlib.Core.List.{List, [], ◌∷◌, ◌++◌}
use Rattle.std.specs.Prelude.{Bool, true, false, not, ◌&&◌, ◌||◌, nat_eq, nat_lt, Option, Some, slice_get, slice_index_or, length, map}
use Rattle.std.specs.Option.{option_map_or}
use Rattle.std.specs.List.{AllByRecursion, IsDistinct, list_any, list_all}
use Rattle.std.proofs.lemmas.Bool.{eqb-true, ltb-true}
use Rattle.std.proofs.lemmas.List.{get_or-map, length-map, append_assoc}
use Rattle.grid_geom.specs.declared.Point.{Point}
use Rattle.grid_geom.specs.Plane.{orient}
use Rattle.grid_geom.proofs.Booleans.{le_true, lt_true}
use Rattle.rule_reader.specs.declared.rule.MapPoint.{MapPoint}
use Rattle.rule_reader.specs.declared.rule.MapLine.{MapLine}
use Rattle.rule_reader.specs.Normal.{Names, IsMapLine, BeginsAtBase}
use Rattle.rule_maps.specs.Frame.{IsInRange}
use Rattle.state_law.specs.State.{State, point_at, corners_of}
use Rattle.front_chain.specs.Front.{state_of}
use Rattle.rule_match.specs.declared.near.NearPoint.{NearPoint}
use Rattle.rule_match.specs.Candidate.{local4, nth, mapped_pair, IsTolerated, AreTolerated, IsLineTolerated, IsFrontPoint, IsFrontPair, rule_place}
use Rattle.rule_match.specs.Fitting.{both_known, known, is_met, are_different, fits_so_far}
use Rattle.rule_match.specs.Trying.{Setting, near_at, does_go, is_end_right, point_test, point_tie, point_ties, line_test, line_tie, turn_test, turn_tie, other_ties, ties}
use Rattle.rule_match.specs.Around.{IsAround}
use Rattle.rule_match.specs.Base.{Tried, IsTrying, numbers_at, setting_at}
use Rattle.rule_match.proofs.Prefixes.{both}
use Rattle.rule_match.proofs.NextPoint.{points_of}

abbrev origin : Point
origin = record { x = pos 0; y = pos 0 }

clash : {A : Type 0} → false ≡ true → A
clash h = absurd (true≢false (sym h))

get_known : (b : List ℕ) (i : ℕ) → i < length b → slice_get b i ≡ Some (slice_index_or b i 0)
get_known [] i h = absurd (omega (arith, h))
get_known (x ∷ b) zero h = refl
get_known (x ∷ b) (suc i) h = get_known b i (omega (arith, h))

get_at : (pre : List ℕ) (x : ℕ) (rest : List ℕ) (k : ℕ) → k ≡ length pre → slice_get (pre ++ x ∷ rest) k ≡ Some x
get_at [] x rest zero e = refl
get_at [] x rest (suc k) e = absurd (omega (arith, e))
get_at (y ∷ pre) x rest zero e = absurd (omega (arith, e))
get_at (y ∷ pre) x rest (suc k) e = get_at pre x rest k (omega (arith, e))

longer : (pre : List ℕ) (x : ℕ) → length (pre ++ x ∷ []) ≡ length pre + 1
longer [] x = refl
longer (y ∷ pre) x = omega (arith, longer pre x)

-- each at a position
pub all_there : (P : ℕ → Type 0) (b : List ℕ) (i : ℕ) → AllByRecursion P b → i < length b → P (slice_index_or b i 0)
all_there P [] i a h = absurd (omega (arith, h))
all_there P (x ∷ b) zero a h = a.0
all_there P (x ∷ b) (suc i) a h = all_there P b i a.1 (omega (arith, h))

all_split : {A : Type 0} (test : A → Bool) (xs ys : List A) → list_all test (xs ++ ys) ≡ true → (list_all test xs ≡ true) × (list_all test ys ≡ true)
all_split test [] ys h = (refl, h)
all_split test (x ∷ xs) ys h =
    let g = both (test x) (list_all test (xs ++ ys)) h in
    let r = all_split test xs ys g.1 in
    (pair (test x) (list_all test xs) g.0 r.0, r.1)
  where
    pair : (a b : Bool) → a ≡ true → b ≡ true → (a && b) ≡ true
    pair a b h k = ap (λ c. c && b) h ∙ k

module _ (t : Tried) where
  abbrev s : Setting
  s = setting_at t

  abbrev st : State
  st = state_of t.base.front

  abbrev near : List NearPoint
  near = t.base.near

  -- ---- the tests of single points
  -- the point at a position passes
  one_point : (k : ℕ) (m : MapPoint) (pre : List ℕ) (x : ℕ) (rest : List ℕ) → k ≡ length pre → is_met (pre ++ x ∷ rest) (point_tie s k m) ≡ true → point_test s k m x ≡ true
  one_point k m pre x rest e h = sym (ap (λ (z : Option ℕ). option_map_or (λ ns. point_test s k m (slice_index_or ns 0 0)) (both_known z (Some [])) true) (get_at pre x rest k e)) ∙ h

  -- each is a near point
  pub within : (k : ℕ) (ms : List MapPoint) (pre b : List ℕ) → k ≡ length pre → length b ≡ length ms → list_all (is_met (pre ++ b)) (point_ties s k ms) ≡ true → AllByRecursion (λ n. n < length near) b
  within k [] pre [] e l h = tt
  within k [] pre (x ∷ b) e l h = absurd (omega (arith, l))
  within k (m ∷ ms) pre [] e l h = absurd (omega (arith, l))
  within k (m ∷ ms) pre (x ∷ b) e l h =
      let g = both (is_met (pre ++ x ∷ b) (point_tie s k m)) (list_all (is_met (pre ++ x ∷ b)) (point_ties s (k + 1) ms)) h in
      let p = one_point k m pre x b e g.0 in
      let q = both (nat_lt x (length near)) _ p in
      (ltb-true x (length near) q.0, within (k + 1) ms (pre ++ x ∷ []) b (omega (arith, e, longer pre x)) (omega (arith, l)) (subst (λ (z : List ℕ). list_all (is_met z) (point_ties s (k + 1) ms) ≡ true) (sym (append_assoc pre (x ∷ []) b)) g.1))

  -- each is an end of the base line where it must be
  ends_right : (k : ℕ) (ms : List MapPoint) (pre b : List ℕ) → k ≡ length pre → length b ≡ length ms → list_all (is_met (pre ++ b)) (point_ties s k ms) ≡ true → (i j : ℕ) → j ≡ k + i → i < length b → is_end_right s j (near_at near (slice_index_or b i 0)).number ≡ true
  ends_right k [] pre [] e l h i j f r = absurd (omega (arith, r))
  ends_right k [] pre (x ∷ b) e l h i j f r = absurd (omega (arith, l))
  ends_right k (m ∷ ms) pre [] e l h i j f r = absurd (omega (arith, l))
  ends_right k (m ∷ ms) pre (x ∷ b) e l h zero j f r =
      let g = both (is_met (pre ++ x ∷ b) (point_tie s k m)) (list_all (is_met (pre ++ x ∷ b)) (point_ties s (k + 1) ms)) h in
      let q = both (nat_lt x (length near)) _ (one_point k m pre x b e g.0) in
      subst (λ (n : ℕ). is_end_right s n (near_at near x).number ≡ true) (omega (arith, f)) (both (is_end_right s k (near_at near x).number) _ q.1).0
  ends_right k (m ∷ ms) pre (x ∷ b) e l h (suc i) j f r =
      let g = both (is_met (pre ++ x ∷ b) (point_tie s k m)) (list_all (is_met (pre ++ x ∷ b)) (point_ties s (k + 1) ms)) h in
      ends_right (k + 1) ms (pre ++ x ∷ []) b (omega (arith, e, longer pre x)) (omega (arith, l)) (subst (λ (z : List ℕ). list_all (is_met z) (point_ties s (k + 1) ms) ≡ true) (sym (append_assoc pre (x ∷ []) b)) g.1) i j (omega (arith, f)) (omega (arith, r))

  module _ (i : IsTrying t) where
    around : IsAround st t.base.frame t.base.scope near t.base.lines
    around = i.base.surrounded.around

    pub place_of : (k : ℕ) → k < length near → (near_at near k).at ≡ point_at st.points (near_at near k).number
    place_of k h = (around.points k h).place

    local_x_of : (k : ℕ) → k < length near → (near_at near k).x ≡ (local4 t.base.frame (point_at st.points (near_at near k).number)).x
    local_x_of k h = (around.points k h).x ∙ ap (λ (p : Point). (local4 t.base.frame p).x) (place_of k h)

    local_y_of : (k : ℕ) → k < length near → (near_at near k).y ≡ (local4 t.base.frame (point_at st.points (near_at near k).number)).y
    local_y_of k h = (around.points k h).y ∙ ap (λ (p : Point). (local4 t.base.frame p).y) (place_of k h)

    -- a measure of equal places
    moved : (class : ℕ) (m : MapPoint) (x y u v : ℤ) → x ≡ u → y ≡ v → IsTolerated class m.tol (x -ℤ m.x) (y -ℤ m.y) → IsTolerated class m.tol (u -ℤ m.x) (v -ℤ m.y)
    moved class m x y u v e f h = subst (λ (z : ℤ). IsTolerated class m.tol (u -ℤ m.x) (z -ℤ m.y)) f (subst (λ (z : ℤ). IsTolerated class m.tol (z -ℤ m.x) (y -ℤ m.y)) e h)

    tolerated : (k : ℕ) (ms : List MapPoint) (pre b : List ℕ) → k ≡ length pre → length b ≡ length ms → AllByRecursion (λ n. n < length near) b → list_all (is_met (pre ++ b)) (point_ties s k ms) ≡ true →
        AreTolerated t.base.class (map (local4 t.base.frame) (corners_of st.points (numbers_at near b))) ms
    tolerated k [] pre [] e l w h = tt
    tolerated k [] pre (x ∷ b) e l w h = absurd (omega (arith, l))
    tolerated k (m ∷ ms) pre [] e l w h = absurd (omega (arith, l))
    tolerated k (m ∷ ms) pre (x ∷ b) e l w h =
        let g = both (is_met (pre ++ x ∷ b) (point_tie s k m)) (list_all (is_met (pre ++ x ∷ b)) (point_ties s (k + 1) ms)) h in
        let q = both (nat_lt x (length near)) _ (one_point k m pre x b e g.0) in
        let r = both (is_end_right s k (near_at near x).number) _ q.1 in (
          moved t.base.class m (near_at near x).x (near_at near x).y _ _ (local_x_of x w.0) (local_y_of x w.0) (le_true _ _ r.1),
          tolerated (k + 1) ms (pre ++ x ∷ []) b (omega (arith, e, longer pre x)) (omega (arith, l)) w.1 (subst (λ (z : List ℕ). list_all (is_met z) (point_ties s (k + 1) ms) ≡ true) (sym (append_assoc pre (x ∷ []) b)) g.1),
        )

    -- ---- the rule's numbers
    pub two_points : (1 < length t.rule.points)
    two_points = by t.rule.lines i.rule.base i.rule.lines.1
      where
        by : (ls : List MapLine) → BeginsAtBase ls → AllByRecursion (IsMapLine (length t.rule.points)) ls → 1 < length t.rule.points
        by [] b a = absurd b
        by (l ∷ ls) b a = omega (arith, b.1, a.0.j.1)

    module _ (b : List ℕ) (l : length b ≡ length t.rule.points) (f : fits_so_far (ties s) b ≡ true) where
      met_points : list_all (is_met b) (point_ties s 0 t.rule.points) ≡ true
      met_points = points_of s b f

      pub all_within : AllByRecursion (λ n. n < length near) b
      all_within = within 0 t.rule.points [] b refl l met_points

      there : (n : ℕ) → Names (length t.rule.points) n → n - 1 < length b
      there n h = omega (arith, l, h.0, h.1)

      -- ---- what stands at a position
      near_there : (k : ℕ) → k < length b → slice_index_or b k 0 < length near
      near_there k h = all_there (λ n. n < length near) b k all_within h

      number_there : (k : ℕ) → k < length b → slice_index_or (numbers_at near b) k 0 ≡ (near_at near (slice_index_or b k 0)).number
      number_there k h = get_or-map (λ j. (near_at near j).number) b k 0 0 h

      place_there : (k : ℕ) → k < length b → slice_index_or (corners_of st.points (numbers_at near b)) k origin ≡ (near_at near (slice_index_or b k 0)).at
      place_there k h = get_or-map (point_at st.points) (numbers_at near b) k 0 origin (subst (λ (n : ℕ). k < n) (sym (length-map b (λ j. (near_at near j).number))) h) ∙ ap (point_at st.points) (number_there k h) ∙ sym (place_of (slice_index_or b k 0) (near_there k h))

      local_there : (k : ℕ) → k < length b → slice_index_or (map (local4 t.base.frame) (corners_of st.points (numbers_at near b))) k origin ≡ local4 t.base.frame (near_at near (slice_index_or b k 0)).at
      local_there k h = get_or-map (local4 t.base.frame) (corners_of st.points (numbers_at near b)) k origin origin
          (subst (λ (n : ℕ). k < n) (sym (length-map (numbers_at near b) (point_at st.points) ∙ length-map b (λ j. (near_at near j).number))) h) ∙ ap (local4 t.base.frame) (place_there k h)

      x_there : (k : ℕ) → k < length b → (near_at near (slice_index_or b k 0)).x ≡ (slice_index_or (map (local4 t.base.frame) (corners_of st.points (numbers_at near b))) k origin).x
      x_there k h = (around.points (slice_index_or b k 0) (near_there k h)).x ∙ sym (ap (λ (p : Point). p.x) (local_there k h))

      y_there : (k : ℕ) → k < length b → (near_at near (slice_index_or b k 0)).y ≡ (slice_index_or (map (local4 t.base.frame) (corners_of st.points (numbers_at near b))) k origin).y
      y_there k h = (around.points (slice_index_or b k 0) (near_there k h)).y ∙ sym (ap (λ (p : Point). p.y) (local_there k h))

      -- ---- points
      pub at_start : nth (numbers_at near b) 1 ≡ t.base.line.1
      at_start = number_there 0 (omega (arith, l, two_points)) ∙ eqb-true _ _ (ends_right 0 t.rule.points [] b refl l met_points 0 0 refl (omega (arith, l, two_points)))

      pub at_end : nth (numbers_at near b) 2 ≡ t.base.line.2
      at_end = number_there 1 (omega (arith, l, two_points)) ∙ eqb-true _ _ (ends_right 0 t.rule.points [] b refl l met_points 1 1 refl (omega (arith, l, two_points)))

      pub points_tolerated : AreTolerated t.base.class (map (local4 t.base.frame) (corners_of st.points (numbers_at near b))) t.rule.points
      points_tolerated = tolerated 0 t.rule.points [] b refl l all_within met_points

      pub all_on_front : (c : List ℕ) → AllByRecursion (λ n. n < length near) c → AllByRecursion (IsFrontPoint st) (numbers_at near c)
      all_on_front [] w = tt
      all_on_front (x ∷ c) w = (i.base.surrounded.on_front x w.0, all_on_front c w.1)

      pub all_in_range : (c : List ℕ) → AllByRecursion (λ n. n < length near) c → AllByRecursion (IsInRange t.base.frame) (corners_of st.points (numbers_at near c))
      all_in_range [] w = tt
      all_in_range (x ∷ c) w = (subst (IsInRange t.base.frame) (place_of x w.0) (i.base.surrounded.in_range x w.0), all_in_range c w.1)

      -- different near points are different points
      apart : (c : List ℕ) (x : ℕ) → x < length near → AllByRecursion (λ n. n < length near) c → list_any (nat_eq x) c ≡ false → AllByRecursion (λ n. nat_eq (near_at near x).number n ≡ false) (numbers_at near c)
      apart [] x h w n = tt
      apart (y ∷ c) x h w n = (by (nat_eq (near_at near x).number (near_at near y).number) refl, apart c x h w.1 (later (nat_eq x y) (list_any (nat_eq x) c) n))
        where
          later : (p q : Bool) → (p || q) ≡ false → q ≡ false
          later true q e = absurd (true≢false e)
          later false q e = e

          self : (j k : ℕ) → j ≡ k → nat_eq j k ≡ true
          self j k e = grind arith

          first : (p q : Bool) → (p || q) ≡ false → p ≡ false
          first true q e = absurd (true≢false e)
          first false q e = refl

          by : (p : Bool) → nat_eq (near_at near x).number (near_at near y).number ≡ p → nat_eq (near_at near x).number (near_at near y).number ≡ false
          by false e = e
          by true e = absurd (true≢false (sym (self x y (i.base.surrounded.once x y h w.0 (eqb-true _ _ e))) ∙ first (nat_eq x y) (list_any (nat_eq x) c) n))

      pub all_different : (c : List ℕ) → AllByRecursion (λ n. n < length near) c → are_different c ≡ true → IsDistinct nat_eq (numbers_at near c)
      unfolding IsDistinct
      all_different [] w d = tt
      all_different (x ∷ c) w d = let g = both (not (list_any (nat_eq x) c)) (are_different c) d in (apart c x w.0 w.1 (is_not (list_any (nat_eq x) c) g.0), all_different c w.1 g.1)
        where
          is_not : (p : Bool) → not p ≡ true → p ≡ false
          is_not true e = clash e
          is_not false e = refl

      -- ---- lines and turns
      met_others : list_all (is_met b) (other_ties s) ≡ true
      met_others = (all_split (is_met b) (point_ties s 0 t.rule.points) (other_ties s) (both (are_different b) (list_all (is_met b) (ties s)) f).1).1

      met_lines : list_all (is_met b) (map (line_tie s) t.rule.lines) ≡ true
      met_lines = (all_split (is_met b) (map (line_tie s) t.rule.lines) (map (turn_tie s) t.rule.turns) met_others).0

      met_turns : list_all (is_met b) (map (turn_tie s) t.rule.turns) ≡ true
      met_turns = (all_split (is_met b) (map (line_tie s) t.rule.lines) (map (turn_tie s) t.rule.turns) met_others).1

      one_line : (m : MapLine) → IsMapLine (length t.rule.points) m → is_met b (line_tie s m) ≡ true → line_test s m (near_at near (slice_index_or b (m.i - 1) 0)) (near_at near (slice_index_or b (m.j - 1) 0)) ≡ true
      one_line m k h = sym (ap (λ (o : Option ℕ). option_map_or (line_tie s m).test (both_known o (known b ((m.j - 1) ∷ []))) true) (get_known b (m.i - 1) (there m.i k.i))
          ∙ ap (λ (o : Option ℕ). option_map_or (line_tie s m).test (both_known (Some (slice_index_or b (m.i - 1) 0)) (both_known o (Some []))) true) (get_known b (m.j - 1) (there m.j k.j))) ∙ h

      line_there : (m : MapLine) → IsMapLine (length t.rule.points) m → is_met b (line_tie s m) ≡ true → IsFrontPair st (mapped_pair (numbers_at near b) m)
      line_there m k h =
          let g = both (list_any (does_go (near_at near (slice_index_or b (m.i - 1) 0)).number (near_at near (slice_index_or b (m.j - 1) 0)).number) t.base.lines) _ (one_line m k h) in
          subst (λ (n : ℕ). IsFrontPair st (n, nth (numbers_at near b) m.j)) (sym (number_there (m.i - 1) (there m.i k.i)))
          (subst (λ (n : ℕ). IsFrontPair st ((near_at near (slice_index_or b (m.i - 1) 0)).number, n)) (sym (number_there (m.j - 1) (there m.j k.j)))
          (i.base.surrounded.front_lines _ _ g.0))

      abbrev Way : MapLine → ℤ → ℤ → ℤ → ℤ → Type 0
      Way m a b c d = IsTolerated t.base.class m.tol ((b -ℤ a) -ℤ ((rule_place t.rule.points m.j).x -ℤ (rule_place t.rule.points m.i).x)) ((d -ℤ c) -ℤ ((rule_place t.rule.points m.j).y -ℤ (rule_place t.rule.points m.i).y))

      way_moved : (m : MapLine) {a1 a2 b1 b2 c1 c2 d1 d2 : ℤ} → a1 ≡ a2 → b1 ≡ b2 → c1 ≡ c2 → d1 ≡ d2 → Way m a1 b1 c1 d1 → Way m a2 b2 c2 d2
      way_moved m {a1} {a2} {b1} {b2} {c1} {c2} {d1} {d2} e f g h k = subst (λ (z : ℤ). Way m a2 b2 c2 z) h (subst (λ (z : ℤ). Way m a2 b2 z d1) g (subst (λ (z : ℤ). Way m a2 z c1 d1) f (subst (λ (z : ℤ). Way m z b1 c1 d1) e k)))

      line_tolerated : (m : MapLine) → IsMapLine (length t.rule.points) m → is_met b (line_tie s m) ≡ true → IsLineTolerated t.base.class (map (local4 t.base.frame) (corners_of st.points (numbers_at near b))) t.rule.points m
      line_tolerated m k h =
          let g = both (list_any (does_go (near_at near (slice_index_or b (m.i - 1) 0)).number (near_at near (slice_index_or b (m.j - 1) 0)).number) t.base.lines) _ (one_line m k h) in
          way_moved m (x_there (m.i - 1) (there m.i k.i)) (x_there (m.j - 1) (there m.j k.j)) (y_there (m.i - 1) (there m.i k.i)) (y_there (m.j - 1) (there m.j k.j)) (le_true _ _ g.1)

      all_lines : (ms : List MapLine) → AllByRecursion (IsMapLine (length t.rule.points)) ms → list_all (is_met b) (map (line_tie s) ms) ≡ true →
          AllByRecursion (λ m. IsFrontPair st (mapped_pair (numbers_at near b) m)) ms × AllByRecursion (IsLineTolerated t.base.class (map (local4 t.base.frame) (corners_of st.points (numbers_at near b))) t.rule.points) ms
      all_lines [] a h = (tt, tt)
      all_lines (m ∷ ms) a h = let g = both (is_met b (line_tie s m)) (list_all (is_met b) (map (line_tie s) ms)) h in let r = all_lines ms a.1 g.1 in ((line_there m a.0 g.0, r.0), (line_tolerated m a.0 g.0, r.1))

      pub at_lines : AllByRecursion (λ m. IsFrontPair st (mapped_pair (numbers_at near b) m)) t.rule.lines
      at_lines = (all_lines t.rule.lines i.rule.lines.1 met_lines).0

      pub lines_tolerated : AllByRecursion (IsLineTolerated t.base.class (map (local4 t.base.frame) (corners_of st.points (numbers_at near b))) t.rule.points) t.rule.lines
      lines_tolerated = (all_lines t.rule.lines i.rule.lines.1 met_lines).1

      abbrev AreNames : ℕ × ℕ × ℕ → Type 0
      AreNames n = Names (length t.rule.points) n.0 × Names (length t.rule.points) n.1 × Names (length t.rule.points) n.2

      abbrev IsTurned : ℕ × ℕ × ℕ → Type 0
      IsTurned n = pos 0 <ℤ orient (point_at (corners_of st.points (numbers_at near b)) n.0) (point_at (corners_of st.points (numbers_at near b)) n.1) (point_at (corners_of st.points (numbers_at near b)) n.2)

      turn_there : (n : ℕ × ℕ × ℕ) → AreNames n → is_met b (turn_tie s n) ≡ true → IsTurned n
      turn_there n k h =
          let g : turn_test (near_at near (slice_index_or b (n.0 - 1) 0)) (near_at near (slice_index_or b (n.1 - 1) 0)) (near_at near (slice_index_or b (n.2 - 1) 0)) ≡ true =
          sym (ap (λ (o : Option ℕ). option_map_or (turn_tie s n).test (both_known o (known b ((n.1 - 1) ∷ (n.2 - 1) ∷ []))) true) (get_known b (n.0 - 1) (there n.0 k.0))
          ∙ ap (λ (o : Option ℕ). option_map_or (turn_tie s n).test (both_known (Some (slice_index_or b (n.0 - 1) 0)) (both_known o (known b ((n.2 - 1) ∷ [])))) true) (get_known b (n.1 - 1) (there n.1 k.1))
          ∙ ap (λ (o : Option ℕ). option_map_or (turn_tie s n).test (both_known (Some (slice_index_or b (n.0 - 1) 0)) (both_known (Some (slice_index_or b (n.1 - 1) 0)) (both_known o (Some [])))) true) (get_known b (n.2 - 1) (there n.2 k.2))) ∙ h in
          carried (sym (place_there (n.0 - 1) (there n.0 k.0))) (sym (place_there (n.1 - 1) (there n.1 k.1))) (sym (place_there (n.2 - 1) (there n.2 k.2))) (lt_true _ _ g)
        where
          carried : {a1 a2 b1 b2 c1 c2 : Point} → a1 ≡ a2 → b1 ≡ b2 → c1 ≡ c2 → pos 0 <ℤ orient a1 b1 c1 → pos 0 <ℤ orient a2 b2 c2
          carried {a1} {a2} {b1} {b2} {c1} {c2} e f g h = subst (λ (z : Point). pos 0 <ℤ orient a2 b2 z) g (subst (λ (z : Point). pos 0 <ℤ orient a2 z c1) f (subst (λ (z : Point). pos 0 <ℤ orient z b1 c1) e h))

      all_turns : (ns : List (ℕ × ℕ × ℕ)) → AllByRecursion AreNames ns → list_all (is_met b) (map (turn_tie s) ns) ≡ true → AllByRecursion IsTurned ns
      all_turns [] a h = tt
      all_turns (n ∷ ns) a h = let g = both (is_met b (turn_tie s n)) (list_all (is_met b) (map (turn_tie s) ns)) h in (turn_there n a.0 g.0, all_turns ns a.1 g.1)

      pub turned : AllByRecursion IsTurned t.rule.turns
      turned = all_turns t.rule.turns i.rule.turns.1 met_turns
