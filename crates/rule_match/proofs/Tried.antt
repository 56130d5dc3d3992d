-- A candidate's points are met by the search: near points stand for them, and meet each test that looks at the points alone.
use Prim.Native.Nat.{ℕ, zero, suc, ◌+◌, ◌-◌, ◌<◌}
use lib.IntN.{ℤ, pos, ◌-ℤ◌}
use lib.Signed.{◌<ℤ◌}
use native.Mathlib.Omega.{arith}
use mathlib.Core.Path.{◌≡◌, refl, sym, subst, ap, ◌∙◌}
use mathlib.Core.Bool.{true≢false}
use mathlib.Core.List.{List, [], ◌∷◌}
use mathlib.Core.Logic.{inl, inr}
use Rattle.std.specs.Prelude.{Bool, true, false, not, ◌&&◌, ◌||◌, nat_eq, nat_lt, Option, None, Some, slice_get, slice_index_or, length, map}
use Rattle.std.specs.Option.{option_map_or}
use Rattle.std.specs.List.{AllByRecursion, IsDistinct, list_any, list_all}
use Rattle.std.proofs.lemmas.Bool.{eqb-true, eq-eqb, lt-ltb}
use Rattle.std.proofs.lemmas.Option.{slice_get_cases}
use Rattle.std.proofs.lemmas.List.{get_or-map, length-map}
use Rattle.grid_geom.specs.declared.Point.{Point}
use Rattle.grid_geom.specs.Plane.{orient}
use Rattle.grid_geom.proofs.Booleans.{true_le, true_lt}
use Rattle.rule_reader.specs.declared.rule.MapPoint.{MapPoint}
use Rattle.rule_reader.specs.declared.rule.MapLine.{MapLine}
use Rattle.rule_maps.specs.Frame.{IsInRange}
use Rattle.state_law.specs.State.{State, point_at, corners_of}
use Rattle.rule_match.specs.declared.around.Scope.{Scope}
use Rattle.rule_match.specs.declared.near.NearPoint.{NearPoint}
use Rattle.rule_match.specs.Candidate.{Attempt, mapped, local4, locals, nth, mapped_pair, IsTolerated, AreTolerated, IsLineTolerated, IsFrontPoint, IsFrontPair, rule_place}
use Rattle.rule_match.specs.Refused.{IsAllowed, FitsFront}
use Rattle.rule_match.specs.Fitting.{both_known, known, is_met, are_different, fits_so_far}
use Rattle.rule_match.specs.Trying.{Setting, near_at, does_go, is_tolerated, is_end_right, point_test, point_tie, point_ties, line_test, line_tie, turn_tie, other_ties, ties}
use Rattle.rule_match.specs.Around.{IsAround, AreLookedAt, IsLookedAt, setting_of, StandFor, IsTried}
use Rattle.rule_match.proofs.Prefixes.{pair, not_from, is_false}
use Rattle.rule_match.proofs.NextPoint.{all_first}

abbrev origin : Point
origin = record { x = pos 0; y = pos 0 }

abbrev is_some : Option ℕ → Bool
is_some None = false
is_some (Some n) = true

abbrev value : Option ℕ → ℕ
value None = 0
value (Some n) = n

-- ---- numbers that stand for points
module _ (near : List NearPoint) where
  -- the number at a position stands for the point there
  there : (b ns : List ℕ) → StandFor near b ns → (i x : ℕ) → slice_get b i ≡ Some x → (i < length ns) × (x < length near) × ((near_at near x).number ≡ slice_index_or ns i 0)
  there [] ns r i x e = absurd (true≢false (sym (ap is_some e)))
  there (y ∷ b) [] r i x e = absurd r
  there (y ∷ b) (n ∷ ns) r zero x e = (omega arith, subst (λ (z : ℕ). z < length near) (ap value e) r.0.0, ap (λ (z : ℕ). (near_at near z).number) (sym (ap value e)) ∙ r.0.1)
  there (y ∷ b) (n ∷ ns) r (suc i) x e = let q : (i < length ns) × (x < length near) × ((near_at near x).number ≡ slice_index_or ns i 0) = there b ns r.1 i x e in (omega (arith, q.0), q.1, q.2)

  none_same : (x n : ℕ) → (near_at near x).number ≡ n → (b ns : List ℕ) → StandFor near b ns → AllByRecursion (λ m. nat_eq n m ≡ false) ns → list_any (nat_eq x) b ≡ false
  none_same x n e [] ns r d = refl
  none_same x n e (y ∷ b) [] r d = absurd r
  none_same x n e (y ∷ b) (m ∷ ns) r d = neither (nat_eq x y) (list_any (nat_eq x) b) (is_false (nat_eq x y) (λ h. true≢false (sym (eq-eqb n m (sym e ∙ (ap (λ (z : ℕ). (near_at near z).number) (eqb-true x y h) ∙ r.0.1))) ∙ d.0))) (none_same x n e b ns r.1 d.1)
    where
      neither : (p q : Bool) → p ≡ false → q ≡ false → (p || q) ≡ false
      neither true q h k = absurd (true≢false h)
      neither false q h k = k

  -- different points have different near points
  different : (b ns : List ℕ) → StandFor near b ns → IsDistinct nat_eq ns → are_different b ≡ true
  unfolding IsDistinct
  different [] ns r d = refl
  different (x ∷ b) [] r d = absurd r
  different (x ∷ b) (n ∷ ns) r d = pair (not (list_any (nat_eq x) b)) (are_different b) (not_from (list_any (nat_eq x) b) (none_same x n r.0.1 b ns r.1 d.0)) (different b ns r.1 d.1)

-- of each at a position
all_at : {X : Type 0} (P : X → Type 0) (xs : List X) (i : ℕ) (d : X) → i < length xs → AllByRecursion P xs → P (slice_index_or xs i d)
all_at P [] i d h a = absurd (omega (arith, h))
all_at P (x ∷ xs) zero d h a = a.0
all_at P (x ∷ xs) (suc i) d h a = all_at P xs i d (omega (arith, h)) a.1

-- the way from (a, c) to (b, d), less that in the rule, is tolerated
abbrev IsLineWay : ℕ → List MapPoint → MapLine → ℤ → ℤ → ℤ → ℤ → Type 0
IsLineWay class ps l a b c d = IsTolerated class l.tol ((b -ℤ a) -ℤ ((rule_place ps l.j).x -ℤ (rule_place ps l.i).x)) ((d -ℤ c) -ℤ ((rule_place ps l.j).y -ℤ (rule_place ps l.i).y))

module _ (st : State) (t : Attempt) (near : List NearPoint) (lines : List (ℕ × ℕ)) (scope : Scope) (around : IsAround st t.frame scope near lines) where
  abbrev s : Setting
  s = setting_of t near lines

  -- near points for front points in range
  assigned : (ns : List ℕ) → AreLookedAt scope ns → AllByRecursion (IsFrontPoint st) ns → AllByRecursion (IsInRange t.frame) (corners_of st.points ns) → (b : List ℕ) × StandFor near b ns
  assigned [] a f r = ([], tt)
  assigned (n ∷ ns) a f r =
      let k : (k : ℕ) × (k < length near) × ((near_at near k).number ≡ n) = around.all_points n a.0 f.0 r.0 in
      let rest : (b : List ℕ) × StandFor near b ns = assigned ns a.1 f.1 r.1 in
      (k.0 ∷ rest.0, ((k.1, k.2), rest.1))

  module _ (b : List ℕ) (r : StandFor near b t.points) (looked : AreLookedAt scope t.points) where
    -- what is known of a near point at a position
    place_is : (i x : ℕ) → slice_get b i ≡ Some x → (near_at near x).at ≡ slice_index_or (mapped st t) i origin
    place_is i x e = let q : (i < length t.points) × (x < length near) × ((near_at near x).number ≡ slice_index_or t.points i 0) = there near b t.points r i x e in
        (around.points x q.1).place ∙ (ap (point_at st.points) q.2 ∙ sym (get_or-map (point_at st.points) t.points i 0 origin q.0))

    local_is : (i x : ℕ) → slice_get b i ≡ Some x → local4 t.frame (near_at near x).at ≡ slice_index_or (locals st t) i origin
    local_is i x e = let q : (i < length t.points) × (x < length near) × ((near_at near x).number ≡ slice_index_or t.points i 0) = there near b t.points r i x e in
        ap (local4 t.frame) (place_is i x e) ∙ sym (get_or-map (local4 t.frame) (mapped st t) i origin origin (omega (arith, q.0, length-map t.points (point_at st.points))))

    x_is : (i x : ℕ) → slice_get b i ≡ Some x → (near_at near x).x ≡ (slice_index_or (locals st t) i origin).x
    x_is i x e = (around.points x (there near b t.points r i x e).1).x ∙ ap (λ (p : Point). p.x) (local_is i x e)

    y_is : (i x : ℕ) → slice_get b i ≡ Some x → (near_at near x).y ≡ (slice_index_or (locals st t) i origin).y
    y_is i x e = (around.points x (there near b t.points r i x e).1).y ∙ ap (λ (p : Point). p.y) (local_is i x e)

    -- ---- points
    end_right : (nth t.points 1 ≡ t.line.1) → (nth t.points 2 ≡ t.line.2) → (k n : ℕ) → n ≡ slice_index_or t.points k 0 → is_end_right s k n ≡ true
    end_right f g zero n e = eq-eqb n t.line.1 (e ∙ f)
    end_right f g (suc zero) n e = eq-eqb n t.line.2 (e ∙ g)
    end_right f g (suc (suc k)) n e = refl

    points_met : (nth t.points 1 ≡ t.line.1) → (nth t.points 2 ≡ t.line.2) → (k : ℕ) (ats : List Point) (ps : List MapPoint) → AreTolerated t.class ats ps →
        ((j n : ℕ) → n ≡ k + j → slice_index_or (locals st t) n origin ≡ slice_index_or ats j origin) → list_all (is_met b) (point_ties s k ps) ≡ true
    points_met f g k [] [] a h = refl
    points_met f g k [] (p ∷ ps) a h = absurd a
    points_met f g k (at ∷ ats) [] a h = absurd a
    points_met f g k (at ∷ ats) (p ∷ ps) a h = pair (is_met b (point_tie s k p)) (list_all (is_met b) (point_ties s (k + 1) ps))
        (elim (slice_get_cases b k).1 [
          | inl c ↦ ap (λ (o : Option ℕ). option_map_or (point_tie s k p).test (both_known o (Some [])) true) c.2 ∙ one c.0 c.2
          | inr c ↦ ap (λ (o : Option ℕ). option_map_or (point_tie s k p).test (both_known o (Some [])) true) c.1
        ])
        (points_met f g (k + 1) ats ps a.1 (λ j n e. h (suc j) n (omega (arith, e))))
      where
        one : (x : ℕ) → slice_get b k ≡ Some x → point_test s k p x ≡ true
        one x e =
            let q : (k < length t.points) × (x < length near) × ((near_at near x).number ≡ slice_index_or t.points k 0) = there near b t.points r k x e in
            let u : (near_at near x).x ≡ at.x = x_is k x e ∙ ap (λ (z : Point). z.x) (h 0 k (omega arith)) in
            let v : (near_at near x).y ≡ at.y = y_is k x e ∙ ap (λ (z : Point). z.y) (h 0 k (omega arith)) in
            pair (nat_lt x (length near)) (is_end_right s k (near_at near x).number && is_tolerated t.class p.tol ((near_at near x).x -ℤ p.x) ((near_at near x).y -ℤ p.y)) (lt-ltb x (length near) q.1)
            (pair (is_end_right s k (near_at near x).number) (is_tolerated t.class p.tol ((near_at near x).x -ℤ p.x) ((near_at near x).y -ℤ p.y)) (end_right f g k (near_at near x).number q.2)
            (subst (λ (z : ℤ). is_tolerated t.class p.tol (z -ℤ p.x) ((near_at near x).y -ℤ p.y) ≡ true) (sym u)
            (subst (λ (z : ℤ). is_tolerated t.class p.tol (at.x -ℤ p.x) (z -ℤ p.y) ≡ true) (sym v) (true_le _ _ a.0))))

    -- ---- lines
    line_met : (l : MapLine) → AllByRecursion (IsInRange t.frame) (mapped st t) → IsFrontPair st (mapped_pair t.points l) → IsLineTolerated t.class (locals st t) t.text.points l → is_met b (line_tie s l) ≡ true
    line_met l range f a = elim (slice_get_cases b (l.i - 1)).1 [
      | inr c ↦ ap (λ (o : Option ℕ). option_map_or (line_tie s l).test (both_known o (known b ((l.j - 1) ∷ []))) true) c.1
      | inl c ↦ ap (λ (o : Option ℕ). option_map_or (line_tie s l).test (both_known o (known b ((l.j - 1) ∷ []))) true) c.2 ∙ elim (slice_get_cases b (l.j - 1)).1 [
        | inr d ↦ ap (λ (o : Option ℕ). option_map_or (line_tie s l).test (both_known (Some c.0) (both_known o (Some []))) true) d.1
        | inl d ↦ ap (λ (o : Option ℕ). option_map_or (line_tie s l).test (both_known (Some c.0) (both_known o (Some []))) true) d.2 ∙ both_there c.0 d.0 c.2 d.2
      ]
    ]
      where
        in_range : (i x : ℕ) → slice_get b i ≡ Some x → IsInRange t.frame (point_at st.points (near_at near x).number)
        in_range i x e =
            let q : (i < length t.points) × (x < length near) × ((near_at near x).number ≡ slice_index_or t.points i 0) = there near b t.points r i x e in
            subst (IsInRange t.frame) (sym (place_is i x e) ∙ (around.points x q.1).place) (all_at (IsInRange t.frame) (mapped st t) i origin (omega (arith, q.0, length-map t.points (point_at st.points))) range)

        looked_at : (i x : ℕ) → slice_get b i ≡ Some x → IsLookedAt scope (near_at near x).number
        looked_at i x e =
            let q : (i < length t.points) × (x < length near) × ((near_at near x).number ≡ slice_index_or t.points i 0) = there near b t.points r i x e in
            subst (IsLookedAt scope) (sym q.2) (all_at (IsLookedAt scope) t.points i 0 q.0 looked)

        both_there : (x y : ℕ) → slice_get b (l.i - 1) ≡ Some x → slice_get b (l.j - 1) ≡ Some y → line_test s l (near_at near x) (near_at near y) ≡ true
        both_there x y e g =
            let m : (near_at near x).number ≡ nth t.points l.i = (there near b t.points r (l.i - 1) x e).2 in
            let n : (near_at near y).number ≡ nth t.points l.j = (there near b t.points r (l.j - 1) y g).2 in
            pair (list_any (does_go (near_at near x).number (near_at near y).number) lines) _
            (around.all_lines (near_at near x).number (near_at near y).number (looked_at (l.i - 1) x e) (looked_at (l.j - 1) y g) (subst (λ (z : ℕ). IsFrontPair st (z, (near_at near y).number)) (sym m) (subst (λ (z : ℕ). IsFrontPair st (nth t.points l.i, z)) (sym n) f)) (in_range (l.i - 1) x e) (in_range (l.j - 1) y g))
            (true_le _ _ (moved (sym (x_is (l.i - 1) x e)) (sym (x_is (l.j - 1) y g)) (sym (y_is (l.i - 1) x e)) (sym (y_is (l.j - 1) y g)) a))
          where
            moved : {a1 a2 b1 b2 c1 c2 d1 d2 : ℤ} → a1 ≡ a2 → b1 ≡ b2 → c1 ≡ c2 → d1 ≡ d2 →
                IsTolerated t.class l.tol ((b1 -ℤ a1) -ℤ ((rule_place t.text.points l.j).x -ℤ (rule_place t.text.points l.i).x)) ((d1 -ℤ c1) -ℤ ((rule_place t.text.points l.j).y -ℤ (rule_place t.text.points l.i).y)) →
                IsTolerated t.class l.tol ((b2 -ℤ a2) -ℤ ((rule_place t.text.points l.j).x -ℤ (rule_place t.text.points l.i).x)) ((d2 -ℤ c2) -ℤ ((rule_place t.text.points l.j).y -ℤ (rule_place t.text.points l.i).y))
            moved {a1} {a2} {b1} {b2} {c1} {c2} {d1} {d2} e f g h k = subst (λ (z : ℤ). IsLineWay t.class t.text.points l z b2 c2 d2) e (subst (λ (z : ℤ). IsLineWay t.class t.text.points l a1 z c2 d2) f (subst (λ (z : ℤ). IsLineWay t.class t.text.points l a1 b1 z d2) g (subst (λ (z : ℤ). IsLineWay t.class t.text.points l a1 b1 c1 z) h k)))

    lines_met : (ls : List MapLine) → AllByRecursion (IsInRange t.frame) (mapped st t) → AllByRecursion (λ l. IsFrontPair st (mapped_pair t.points l)) ls → AllByRecursion (IsLineTolerated t.class (locals st t) t.text.points) ls → list_all (is_met b) (map (line_tie s) ls) ≡ true
    lines_met [] range f a = refl
    lines_met (l ∷ ls) range f a = pair (is_met b (line_tie s l)) (list_all (is_met b) (map (line_tie s) ls)) (line_met l range f.0 a.0) (lines_met ls range f.1 a.1)

    -- ---- turns
    turn_met : (n : ℕ × ℕ × ℕ) → pos 0 <ℤ orient (point_at (mapped st t) n.0) (point_at (mapped st t) n.1) (point_at (mapped st t) n.2) → is_met b (turn_tie s n) ≡ true
    turn_met n h = elim (slice_get_cases b (n.0 - 1)).1 [
      | inr c ↦ ap (λ (o : Option ℕ). option_map_or (turn_tie s n).test (both_known o (known b ((n.1 - 1) ∷ (n.2 - 1) ∷ []))) true) c.1
      | inl c ↦ ap (λ (o : Option ℕ). option_map_or (turn_tie s n).test (both_known o (known b ((n.1 - 1) ∷ (n.2 - 1) ∷ []))) true) c.2 ∙ elim (slice_get_cases b (n.1 - 1)).1 [
        | inr d ↦ ap (λ (o : Option ℕ). option_map_or (turn_tie s n).test (both_known (Some c.0) (both_known o (known b ((n.2 - 1) ∷ [])))) true) d.1
        | inl d ↦ ap (λ (o : Option ℕ). option_map_or (turn_tie s n).test (both_known (Some c.0) (both_known o (known b ((n.2 - 1) ∷ [])))) true) d.2 ∙ elim (slice_get_cases b (n.2 - 1)).1 [
          | inr e ↦ ap (λ (o : Option ℕ). option_map_or (turn_tie s n).test (both_known (Some c.0) (both_known (Some d.0) (both_known o (Some [])))) true) e.1
          | inl e ↦ ap (λ (o : Option ℕ). option_map_or (turn_tie s n).test (both_known (Some c.0) (both_known (Some d.0) (both_known o (Some [])))) true) e.2
              ∙ true_lt (pos 0) (orient (near_at near c.0).at (near_at near d.0).at (near_at near e.0).at) (moved (sym (place_is (n.0 - 1) c.0 c.2)) (sym (place_is (n.1 - 1) d.0 d.2)) (sym (place_is (n.2 - 1) e.0 e.2)) h)
        ]
      ]
    ]
      where
        moved : {a1 a2 b1 b2 c1 c2 : Point} → a1 ≡ a2 → b1 ≡ b2 → c1 ≡ c2 → pos 0 <ℤ orient a1 b1 c1 → pos 0 <ℤ orient a2 b2 c2
        moved {a1} {a2} {b1} {b2} {c1} {c2} e f g h =
            subst (λ (z : Point). pos 0 <ℤ orient a2 b2 z) g (subst (λ (z : Point). pos 0 <ℤ orient a2 z c1) f (subst (λ (z : Point). pos 0 <ℤ orient z b1 c1) e h))

    turns_met : (ns : List (ℕ × ℕ × ℕ)) → AllByRecursion (λ n. pos 0 <ℤ orient (point_at (mapped st t) n.0) (point_at (mapped st t) n.1) (point_at (mapped st t) n.2)) ns → list_all (is_met b) (map (turn_tie s) ns) ≡ true
    turns_met [] a = refl
    turns_met (n ∷ ns) a = pair (is_met b (turn_tie s n)) (list_all (is_met b) (map (turn_tie s) ns)) (turn_met n a.0) (turns_met ns a.1)

    -- each test is met
    pub all_met : IsAllowed st t → FitsFront st t → fits_so_far (ties s) b ≡ true
    all_met c h = pair (are_different b) (list_all (is_met b) (ties s)) (different near b t.points r c.different)
        (sym (all_first b (point_ties s 0 t.text.points) (other_ties s) true (points_met c.at_start c.at_end 0 (locals st t) t.text.points c.points_tolerated (λ j n e. ap (λ (z : ℕ). slice_index_or (locals st t) z origin) (omega (arith, e))))
        (all_first b (map (line_tie s) t.text.lines) (map (turn_tie s) t.text.turns) true (lines_met t.text.lines c.in_range h.at_lines c.lines_tolerated) (sym (turns_met t.text.turns c.turned)))))

-- near points stand for the points of an allowed attempt that fits the front, and meet each test
pub tried : (st : State) (t : Attempt) (near : List NearPoint) (lines : List (ℕ × ℕ)) (scope : Scope) → IsAround st t.frame scope near lines → AreLookedAt scope t.points → IsAllowed st t → FitsFront st t → IsTried (setting_of t near lines) t.points
tried st t near lines scope around looked a h =
    let k : (b : List ℕ) × StandFor near b t.points = assigned st t near lines scope around t.points looked h.on_front a.in_range in
    record { assignment = k.0; stands = k.1; fits = all_met st t near lines scope around k.0 k.1 looked a h }
