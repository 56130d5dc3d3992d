-- The starts of front lines that begin in range, each once, are the front points in range: so the near points with these numbers surround the base line.
use Prim.Native.Nat.{ℕ, zero, suc, ◌<◌}
use native.Mathlib.Omega.{arith}
use mathlib.Core.Path.{◌≡◌, refl, sym, subst, ap, ◌∙◌}
use mathlib.Core.Bool.{Bool, true, false, true≢false, ◌&&◌, ◌||◌}
use mathlib.Core.List.{List, [], ◌∷◌}
use mathlib.Core.Logic.{◌⊎◌, inl, inr}
use Rattle.std.specs.Prelude.{nat_eq, length, map, slice_index_or, ◌↔◌}
use Rattle.std.specs.List.{All, AllByRecursion, Any, Contains, list_any}
use Rattle.std.specs.List.Sorted.{IsStrictlyIncreasing}
use Rattle.std.proofs.lemmas.Bool.{eqb-true, eq-eqb, cases_lt}
use Rattle.std.proofs.lemmas.List.{get_or-map, length-map}
use Rattle.std.proofs.lemmas.List.Elements.{All-from_recursion, All-contains, All-map, All-weaker, All-contains_itself}
use Rattle.std.proofs.lemmas.List.Kept.{AllPairs-from_increasing}
use Rattle.rule_maps.specs.Frame.{LocalFrame, IsInRange}
use Rattle.state_law.specs.State.{point_at, IsListed}
use Rattle.front_chain.specs.Front.{FrontState, IsFrontState, state_of, is_end}
use Rattle.front_chain.proofs.Ends.{end_leaves}
use Rattle.rule_match.specs.declared.around.Scope.{Scope}
use Rattle.rule_match.specs.declared.near.NearPoint.{NearPoint}
use Rattle.rule_match.specs.Candidate.{IsFrontPair, IsFrontPoint}
use Rattle.rule_match.specs.Trying.{near_at, nowhere, does_go}
use Rattle.rule_match.specs.Around.{IsLookedAt, IsPointOf, IsSurrounding, near_of, IsStartNear, HasStartsNear}

-- ---- an item that passes
pub any_fact : {X : Type 0} (P Q : X → Type 0) (xs : List X) → AllByRecursion P xs → Any Q xs → (x : X) × P x × Q x
any_fact P Q xs a e = (e.1, All-contains P xs e.1 (All-from_recursion P xs a) (e.0, e.2, e.3), e.4)

any_more : {X : Type 0} (P Q : X → Type 0) (xs : List X) → ((x : X) → P x → Q x) → Any P xs → Any Q xs
any_more P Q xs h e = (e.0, e.1, e.2, e.3, h e.1 e.4)

clash : {A : Type 0} → false ≡ true → A
clash h = absurd (true≢false (sym h))

or_left : (a b : Bool) → a ≡ true → (a || b) ≡ true
or_left a b h = ap (λ c. c || b) h

or_right : (a b : Bool) → b ≡ true → (a || b) ≡ true
or_right true b h = refl
or_right false b h = h

-- an item that passes is found by its test
pub tested : {X : Type 0} (test : X → Bool) (xs : List X) (k : ℕ) (d : X) → k < length xs → test (slice_index_or xs k d) ≡ true → list_any test xs ≡ true
tested test [] k d h t = absurd (omega (arith, h))
tested test (x ∷ xs) zero d h t = or_left (test x) (list_any test xs) t
tested test (x ∷ xs) (suc k) d h t = or_right (test x) (list_any test xs) (tested test xs k d (omega (arith, h)) t)

-- and a test that finds something finds an item
pub found : {X : Type 0} (test : X → Bool) (xs : List X) → list_any test xs ≡ true → Any (λ x. test x ≡ true) xs
found test [] h = clash h
found test (x ∷ xs) h = by (test x) refl h (found test xs)
  where
    by : (b : Bool) → test x ≡ b → (b || list_any test xs) ≡ true → (list_any test xs ≡ true → Any (λ y. test y ≡ true) xs) → Any (λ y. test y ≡ true) (x ∷ xs)
    by true e h rest = (0, x, omega arith, refl, e)
    by false e h rest = let r = rest h in (suc r.0, r.1, omega (arith, r.2), r.3, r.4)

both_of : (a b : Bool) → (a && b) ≡ true → (a ≡ true) × (b ≡ true)
both_of true b h = (refl, h)
both_of false b h = clash h

-- ---- starts
-- the number is that of a listed front point in range
pub record IsNearNumber (f : FrontState) (frame : LocalFrame) (n : ℕ) : Type 0 where
  pub on_front : IsFrontPoint (state_of f) n
  pub listed : IsListed (length f.points) n
  pub in_range : IsInRange frame (point_at f.points n)

pub starts_near : (f : FrontState) (frame : LocalFrame) (lines : List (ℕ × ℕ)) (starts : List ℕ) → IsFrontState f → All (IsStartNear (state_of f) frame) lines →
    ((n : ℕ) → Contains starts n ↔ Contains (map (λ (line : ℕ × ℕ). line.0) lines) n) → All (IsNearNumber f frame) starts
starts_near f frame lines starts s only is = All-weaker (λ n. Contains starts n) (IsNearNumber f frame) (λ n h. All-contains (IsNearNumber f frame) (map (λ (line : ℕ × ℕ). line.0) lines) n
    (All-map (IsNearNumber f frame) (λ (line : ℕ × ℕ). line.0) lines (All-weaker (IsStartNear (state_of f) frame) (λ line. IsNearNumber f frame line.0) one lines only)) ((is n).0 h)) starts (All-contains_itself starts)
  where
    one : (line : ℕ × ℕ) → IsStartNear (state_of f) frame line → IsNearNumber f frame line.0
    one line h =
        let e : (l : ℕ × ℕ × ℕ) × (IsListed (length f.points) l.1 × IsListed (length f.points) l.2) × ((l.1 ≡ line.0) × (l.2 ≡ line.1)) = any_fact (λ l. IsListed (length f.points) l.1 × IsListed (length f.points) l.2) (λ l. (l.1 ≡ line.0) × (l.2 ≡ line.1)) f.lines s.numbered.lines_listed h.0 in
        record {
          on_front = any_more (λ l. (l.1 ≡ line.0) × (l.2 ≡ line.1)) (λ l. (l.1 ≡ line.0) ⊎ (l.2 ≡ line.0)) f.lines (λ l p. inl p.0) h.0;
          listed = subst (IsListed (length f.points)) e.2.0 e.1.0;
          in_range = h.1;
        }

-- a line leaves each front point
leaves : (f : FrontState) (n : ℕ) → IsFrontState f → IsFrontPoint (state_of f) n → (b : ℕ) × IsFrontPair (state_of f) (n, b)
leaves f n s p =
    let ends : is_end f.lines n ≡ true = tested (λ (line : ℕ × ℕ × ℕ). nat_eq line.1 n || nat_eq line.2 n) f.lines p.0 p.1 p.2 (subst (λ (line : ℕ × ℕ × ℕ). (nat_eq line.1 n || nat_eq line.2 n) ≡ true) (sym p.3) (by p.1 p.4)) in
    let e = found (λ (line : ℕ × ℕ × ℕ). nat_eq line.1 n) f.lines (end_leaves (state_of f) n s.numbered s.region.closed ∙ ends) in
    (e.1.2, (e.0, e.1, e.2, e.3, (eqb-true e.1.1 n e.4, refl)))
  where
    by : (line : ℕ × ℕ × ℕ) → (line.1 ≡ n) ⊎ (line.2 ≡ n) → (nat_eq line.1 n || nat_eq line.2 n) ≡ true
    by line (inl h) = or_left (nat_eq line.1 n) (nat_eq line.2 n) (eq-eqb line.1 n h)
    by line (inr h) = or_right (nat_eq line.1 n) (nat_eq line.2 n) (eq-eqb line.2 n h)

-- ---- the surroundings
module _ (f : FrontState) (frame : LocalFrame) (lines : List (ℕ × ℕ)) (starts : List ℕ) where
  abbrev near_points : List NearPoint
  near_points = map (near_of f.points frame) starts

  counted : length near_points ≡ length starts
  counted = length-map starts (near_of f.points frame)

  near_is : (k : ℕ) → k < length near_points → near_at near_points k ≡ near_of f.points frame (slice_index_or starts k 0)
  near_is k h = get_or-map (near_of f.points frame) starts k 0 nowhere (subst (λ (n : ℕ). k < n) counted h)

  fewer : (k : ℕ) → k < length near_points → k < length starts
  fewer k h = subst (λ (n : ℕ). k < n) counted h

  module _ (s : IsFrontState f) (scope : Scope) (only : All (IsStartNear (state_of f) frame) lines) (all : HasStartsNear (state_of f) frame scope lines) (rising : IsStrictlyIncreasing starts)
      (is : (n : ℕ) → Contains starts n ↔ Contains (map (λ (line : ℕ × ℕ). line.0) lines) n) where
    number_near : (k : ℕ) → k < length near_points → IsNearNumber f frame (slice_index_or starts k 0)
    number_near k h = starts_near f frame lines starts s only is k 0 (fewer k h)

    point_is : (k : ℕ) → k < length near_points → IsPointOf (state_of f) frame (near_at near_points k)
    point_is k h = subst (IsPointOf (state_of f) frame) (sym (near_is k h)) (record { place = refl; x = refl; y = refl })

    start_of : (n b : ℕ) → list_any (does_go n b) lines ≡ true → Contains (map (λ (line : ℕ × ℕ). line.0) lines) n
    start_of n b h =
        let e = found (does_go n b) lines h in
        let m : e.1.0 ≡ n = eqb-true e.1.0 n (both_of (nat_eq e.1.0 n) (nat_eq e.1.1 b) e.4).0 in
        (e.0, subst (λ (n : ℕ). e.0 < n) (sym (length-map lines (λ (line : ℕ × ℕ). line.0))) e.2, get_or-map (λ (line : ℕ × ℕ). line.0) lines e.0 e.1 n e.2 ∙ ap (λ (line : ℕ × ℕ). line.0) e.3 ∙ m)

    all_near : (n : ℕ) → IsLookedAt scope n → IsFrontPoint (state_of f) n → IsInRange frame (point_at f.points n) → (k : ℕ) × (k < length near_points) × ((near_at near_points k).number ≡ n)
    all_near n looked p r =
        let pair = leaves f n s p in
        let c : Contains starts n = (is n).1 (start_of n pair.0 (all n pair.0 looked pair.1 r)) in
        let h : c.0 < length near_points = subst (λ (n : ℕ). c.0 < n) (sym counted) c.1 in
        (c.0, h, ap (λ (z : NearPoint). z.number) (near_is c.0 h) ∙ same_fallback starts c.0 0 n c.1 ∙ c.2)
      where
        same_fallback : (xs : List ℕ) (k a b : ℕ) → k < length xs → slice_index_or xs k a ≡ slice_index_or xs k b
        same_fallback [] k a b h = absurd (omega (arith, h))
        same_fallback (x ∷ xs) zero a b h = refl
        same_fallback (x ∷ xs) (suc k) a b h = same_fallback xs k a b (omega (arith, h))

    apart : (j k : ℕ) → j < k → k < length starts → slice_index_or starts j 0 ≡ slice_index_or starts k 0 → ⊥
    apart j k h l e = let r : slice_index_or starts j 0 < slice_index_or starts k 0 = AllPairs-from_increasing starts rising j k 0 h l in absurd (omega (arith, r, e))

    once : (j k : ℕ) → j < length near_points → k < length near_points → (near_at near_points j).number ≡ (near_at near_points k).number → j ≡ k
    once j k h l e = elim (cases_lt j k) [
      | inl i ↦ absurd (apart j k i (fewer k l) same)
      | inr i ↦ elim (cases_lt k j) [
        | inl m ↦ absurd (apart k j m (fewer j h) (sym same))
        | inr m ↦ omega (arith, i, m)
      ]
    ]
      where
        same : slice_index_or starts j 0 ≡ slice_index_or starts k 0
        same = ap (λ (z : NearPoint). z.number) (sym (near_is j h)) ∙ e ∙ ap (λ (z : NearPoint). z.number) (near_is k l)

    only_front : (a b : ℕ) → list_any (does_go a b) lines ≡ true → IsFrontPair (state_of f) (a, b)
    only_front a b h =
        let e = found (does_go a b) lines h in
        let t = both_of (nat_eq e.1.0 a) (nat_eq e.1.1 b) e.4 in
        let p : IsFrontPair (state_of f) e.1 = (All-contains (IsStartNear (state_of f) frame) lines e.1 only (e.0, e.2, e.3)).0 in
        subst (λ (n : ℕ). IsFrontPair (state_of f) (n, b)) (eqb-true e.1.0 a t.0) (subst (λ (n : ℕ). IsFrontPair (state_of f) (e.1.0, n)) (eqb-true e.1.1 b t.1) p)

    surrounding : IsSurrounding (state_of f) frame scope near_points lines
    surrounding = record {
      around = record { points = point_is; all_points = all_near; all_lines = λ a b looked k p r q. all a b looked p r };
      on_front = λ k h. subst (λ (z : NearPoint). IsFrontPoint (state_of f) z.number) (sym (near_is k h)) (number_near k h).on_front;
      in_range = λ k h. subst (λ (z : NearPoint). IsInRange frame z.at) (sym (near_is k h)) (number_near k h).in_range;
      once = once;
      front_lines = only_front;
    }

pub surrounds : (f : FrontState) (frame : LocalFrame) (lines : List (ℕ × ℕ)) (starts : List ℕ) (near : List NearPoint) (scope : Scope) → IsFrontState f → All (IsStartNear (state_of f) frame) lines → HasStartsNear (state_of f) frame scope lines →
    IsStrictlyIncreasing starts → ((n : ℕ) → Contains starts n ↔ Contains (map (λ (line : ℕ × ℕ). line.0) lines) n) → near ≡ map (near_of f.points frame) starts → IsSurrounding (state_of f) frame scope near lines
surrounds f frame lines starts near scope s only all rising is e = subst (λ (ns : List NearPoint). IsSurrounding (state_of f) frame scope ns lines) (sym e) (surrounding f frame lines starts s scope only all rising is)
