-- The tests once more when one point more is mapped.
use Prim.Native.Nat.{ℕ, zero, suc, ◌+◌, ◌<◌}
use native.Mathlib.Omega.{arith}
use mathlib.Core.Path.{◌≡◌, refl, sym, ap, ◌∙◌}
use mathlib.Core.List.{List, [], ◌∷◌, ◌++◌}
use Rattle.std.specs.Prelude.{Bool, true, false, ◌&&◌, Option, None, Some, slice_get, slice_index_or, length, map}
use Rattle.std.specs.Option.{option_map_or}
use Rattle.std.specs.List.{list_all}
use Rattle.rule_reader.specs.declared.rule.MapPoint.{MapPoint}
use Rattle.rule_match.specs.Fitting.{Tie, both_known, is_met, are_different, fits_so_far}
use Rattle.rule_match.specs.Trying.{Setting, point_test, point_tie, point_ties, line_tie, turn_tie, other_ties, ties}
use Rattle.rule_match.proofs.Prefixes.{both, pair}

-- two tests in either order
pub swapped : (r s : Bool) → (r && s) ≡ (s && r)
swapped true true = refl
swapped true false = refl
swapped false true = refl
swapped false false = refl

-- ---- the number at a position, with one more at the end
get_old : (b : List ℕ) (p k : ℕ) → k < length b → slice_get (b ++ p ∷ []) k ≡ slice_get b k
get_old [] p k h = absurd (omega (arith, h))
get_old (x ∷ b) p zero h = refl
get_old (x ∷ b) p (suc k) h = get_old b p k (omega (arith, h))

get_new : (b : List ℕ) (p k : ℕ) → k ≡ length b → slice_get (b ++ p ∷ []) k ≡ Some p
get_new [] p zero h = refl
get_new [] p (suc k) h = absurd (omega (arith, h))
get_new (x ∷ b) p zero h = absurd (omega (arith, h))
get_new (x ∷ b) p (suc k) h = get_new b p k (omega (arith, h))

get_none : (b : List ℕ) (p k : ℕ) → length b < k → slice_get (b ++ p ∷ []) k ≡ None
get_none [] p zero h = absurd (omega (arith, h))
get_none [] p (suc k) h = refl
get_none (x ∷ b) p zero h = absurd (omega (arith, h))
get_none (x ∷ b) p (suc k) h = get_none b p k (omega (arith, h))

module _ (s : Setting) (b : List ℕ) (p : ℕ) where
  abbrev at_get : ℕ → MapPoint → Option ℕ → Bool
  at_get k m o = option_map_or (λ ns. point_test s k m (slice_index_or ns 0 0)) (both_known o (Some [])) true

  -- tests of points that come later can't be made yet
  later : (k : ℕ) (ms : List MapPoint) → length b < k → list_all (is_met (b ++ p ∷ [])) (point_ties s k ms) ≡ true
  later k [] h = refl
  later k (m ∷ ms) h = pair (is_met (b ++ p ∷ []) (point_tie s k m)) (list_all (is_met (b ++ p ∷ [])) (point_ties s (k + 1) ms)) (ap (at_get k m) (get_none b p k h)) (later (k + 1) ms (omega (arith, h)))

  -- of the points from k on, the test of the new one decides
  from_here : (k : ℕ) (ms : List MapPoint) (j : ℕ) (d : MapPoint) → k + j ≡ length b → j < length ms → list_all (is_met b) (point_ties s k ms) ≡ true →
      point_test s (length b) (slice_index_or ms j d) p ≡ list_all (is_met (b ++ p ∷ [])) (point_ties s k ms)
  from_here k [] j d e h f = absurd (omega (arith, h))
  from_here k (m ∷ ms) zero d e h f =
      let i : k ≡ length b = omega (arith, e) in
      sym (ap (λ (z : Bool). z && list_all (is_met (b ++ p ∷ [])) (point_ties s (k + 1) ms)) (ap (at_get k m) (get_new b p k i))
      ∙ (ap (λ (z : Bool). point_test s k m p && z) (later (k + 1) ms (omega (arith, i))) ∙ (and_true (point_test s k m p) ∙ ap (λ (z : ℕ). point_test s z m p) i)))
    where
      and_true : (r : Bool) → (r && true) ≡ r
      and_true true = refl
      and_true false = refl
  from_here k (m ∷ ms) (suc j) d e h f =
      let g : (is_met b (point_tie s k m) ≡ true) × (list_all (is_met b) (point_ties s (k + 1) ms) ≡ true) = both (is_met b (point_tie s k m)) (list_all (is_met b) (point_ties s (k + 1) ms)) f in
      from_here (k + 1) ms j d (omega (arith, e)) (omega (arith, h)) g.1
      ∙ sym (ap (λ (z : Bool). z && list_all (is_met (b ++ p ∷ [])) (point_ties s (k + 1) ms)) (ap (at_get k m) (get_old b p k (omega (arith, e))) ∙ g.0))

-- the next point's test decides all tests of single points
pub next_point : (s : Setting) (b : List ℕ) (p : ℕ) (ms : List MapPoint) (d : MapPoint) → length b < length ms → list_all (is_met b) (point_ties s 0 ms) ≡ true →
    point_test s (length b) (slice_index_or ms (length b) d) p ≡ list_all (is_met (b ++ p ∷ [])) (point_ties s 0 ms)
next_point s b p ms d h f = from_here s b p 0 ms (length b) d (omega arith) h f

-- ---- all tests of two lists
all_append : (b : List ℕ) (xs ys : List Tie) → list_all (is_met b) (xs ++ ys) ≡ (list_all (is_met b) xs && list_all (is_met b) ys)
all_append b [] ys = refl
all_append b (x ∷ xs) ys = ap (λ (z : Bool). is_met b x && z) (all_append b xs ys) ∙ assoc (is_met b x) (list_all (is_met b) xs) (list_all (is_met b) ys)
  where
    assoc : (r s t : Bool) → (r && (s && t)) ≡ ((r && s) && t)
    assoc true s t = refl
    assoc false s t = refl

-- where those of the first are met, those of the second decide
pub all_first : (b : List ℕ) (xs ys : List Tie) (r : Bool) → list_all (is_met b) xs ≡ true → r ≡ list_all (is_met b) ys → r ≡ list_all (is_met b) (xs ++ ys)
all_first b xs ys r h e = e ∙ sym (all_append b xs ys ∙ ap (λ (z : Bool). z && list_all (is_met b) ys) h)

pub all_not : (b : List ℕ) (xs ys : List Tie) (r : Bool) → list_all (is_met b) xs ≡ false → r ≡ false → r ≡ list_all (is_met b) (xs ++ ys)
all_not b xs ys r h e = e ∙ sym (all_append b xs ys ∙ ap (λ (z : Bool). z && list_all (is_met b) ys) h)

-- of a fit, the tests of single points
pub points_of : (s : Setting) (b : List ℕ) → fits_so_far (ties s) b ≡ true → list_all (is_met b) (point_ties s 0 s.rule.points) ≡ true
points_of s b h = (both (list_all (is_met b) (point_ties s 0 s.rule.points)) (list_all (is_met b) (other_ties s)) (sym (all_append b (point_ties s 0 s.rule.points) (other_ties s)) ∙ (both (are_different b) (list_all (is_met b) (ties s)) h).1)).0

-- the others
pub others_of : (s : Setting) (b : List ℕ) → fits_so_far (ties s) b ≡ true → list_all (is_met b) (other_ties s) ≡ true
others_of s b h = (both (list_all (is_met b) (point_ties s 0 s.rule.points)) (list_all (is_met b) (other_ties s)) (sym (all_append b (point_ties s 0 s.rule.points) (other_ties s)) ∙ (both (are_different b) (list_all (is_met b) (ties s)) h).1)).1

-- those of lines among them
pub lines_of : (s : Setting) (b : List ℕ) → list_all (is_met b) (other_ties s) ≡ true → list_all (is_met b) (map (line_tie s) s.rule.lines) ≡ true
lines_of s b h = (both (list_all (is_met b) (map (line_tie s) s.rule.lines)) (list_all (is_met b) (map (turn_tie s) s.rule.turns)) (sym (all_append b (map (line_tie s) s.rule.lines) (map (turn_tie s) s.rule.turns)) ∙ h)).0

-- ---- a test whose two points were known before
abbrev at_two : (List ℕ → Bool) → Option ℕ → Option ℕ → Bool
at_two test o q = option_map_or test (both_known o (both_known q (Some []))) true

pub two_before : (test : List ℕ → Bool) (b : List ℕ) (p i j : ℕ) → i < length b → j < length b → is_met b (record { at = i ∷ j ∷ []; test = test }) ≡ true → true ≡ is_met (b ++ p ∷ []) (record { at = i ∷ j ∷ []; test = test })
two_before test b p i j h k m = sym (ap (λ (o : Option ℕ). at_two test o (slice_get (b ++ p ∷ []) j)) (get_old b p i h) ∙ (ap (λ (o : Option ℕ). at_two test (slice_get b i) o) (get_old b p j k) ∙ m))

-- ---- the first test and the others
pub first_met : (b : List ℕ) (x : Tie) (xs : List Tie) → list_all (is_met b) (x ∷ xs) ≡ true → is_met b x ≡ true
first_met b x xs h = (both (is_met b x) (list_all (is_met b) xs) h).0

pub others_met : (b : List ℕ) (x : Tie) (xs : List Tie) → list_all (is_met b) (x ∷ xs) ≡ true → list_all (is_met b) xs ≡ true
others_met b x xs h = (both (is_met b x) (list_all (is_met b) xs) h).1
