-- Assignments in the rule's order and in the order of mapping.
use Prim.Native.Nat.{ℕ, zero, suc, ◌<◌}
use mathlib.Core.Path.{◌≡◌, refl, sym, ap, ◌∙◌}
use mathlib.Core.Bool.{true≢false}
use mathlib.Core.List.{List, [], ◌∷◌}
use mathlib.Core.Logic.{inl, inr}
use native.Mathlib.Omega.{arith}
use Rattle.std.specs.Prelude.{Bool, true, false, not, ◌||◌, nat_eq, Option, Some, slice_get, slice_index_or, length, map}
use Rattle.std.specs.List.{AllByRecursion, Any, list_any, list_all}
use Rattle.std.proofs.lemmas.Bool.{cases_order, eqb-true, eq-eqb}
use Rattle.std.proofs.lemmas.List.Folds.{Any-from_list_any}
use Rattle.std.proofs.lemmas.List.{get_or-map, get_or_default}
use Rattle.std.proofs.lemmas.Option.{slice_get-get_or}
use Rattle.std.specs.Option.{option_map_or}
use Rattle.rule_match.specs.Fitting.{Tie, both_known, known, is_met, are_different, fits_so_far, in_order, IsOrder, renumbered, DoesFit}
use Rattle.rule_match.proofs.Prefixes.{both, pair, not_from, from_not, is_false}

map_length : (f : ℕ → ℕ) (xs : List ℕ) → length (map f xs) ≡ length xs
map_length f [] = refl
map_length f (x ∷ xs) = ap suc (map_length f xs)

-- lists that are alike at each place
alike : (xs ys : List ℕ) → length xs ≡ length ys → ((k : ℕ) → k < length xs → slice_index_or xs k 0 ≡ slice_index_or ys k 0) → xs ≡ ys
alike [] [] e h = refl
alike [] (y ∷ ys) e h = absurd (omega (arith, e))
alike (x ∷ xs) [] e h = absurd (omega (arith, e))
alike (x ∷ xs) (y ∷ ys) e h = ap (λ (z : ℕ). z ∷ xs) (h 0 (omega arith)) ∙ ap (λ (z : List ℕ). y ∷ z) (alike xs ys (omega (arith, e)) (λ k w. h (suc k) (omega (arith, w))))

-- the number at a place of the order of mapping
at_place : (plan places a : List ℕ) → IsOrder plan places (length a) → (k : ℕ) → k < length a → slice_get (in_order plan a) (slice_index_or places k 0) ≡ Some (slice_index_or a k 0)
at_place plan places a o k w =
    slice_get-get_or (in_order plan a) (slice_index_or places k 0) 0 (omega (arith, o.within k w, o.plan_counted, map_length (λ n. slice_index_or a n 0) plan))
    ∙ ap Some (get_or-map (λ n. slice_index_or a n 0) plan (slice_index_or places k 0) 0 0 (omega (arith, o.within k w, o.plan_counted)) ∙ ap (λ (z : ℕ). slice_index_or a z 0) (o.back k w))

-- back from the order of mapping
pub back_again : (plan places a : List ℕ) → IsOrder plan places (length a) → in_order places (in_order plan a) ≡ a
back_again plan places a o = alike (in_order places (in_order plan a)) a (map_length (λ n. slice_index_or (in_order plan a) n 0) places ∙ o.places_counted) (λ k w.
    let v : k < length a = omega (arith, w, map_length (λ n. slice_index_or (in_order plan a) n 0) places, o.places_counted) in
    get_or-map (λ n. slice_index_or (in_order plan a) n 0) places k 0 0 (omega (arith, v, o.places_counted))
    ∙ (get_or-map (λ n. slice_index_or a n 0) plan (slice_index_or places k 0) 0 0 (omega (arith, o.within k v, o.plan_counted)) ∙ ap (λ (z : ℕ). slice_index_or a z 0) (o.back k v)))

-- ---- different numbers by their places
any_at : (x : ℕ) (xs : List ℕ) (q : ℕ) → q < length xs → x ≡ slice_index_or xs q 0 → list_any (nat_eq x) xs ≡ true
any_at x [] q w e = absurd (omega (arith, w))
any_at x (y ∷ xs) zero w e = first (nat_eq x y) (eq-eqb x y e)
  where
    first : (s : Bool) → s ≡ true → (s || list_any (nat_eq x) xs) ≡ true
    first true h = refl
    first false h = absurd (true≢false (sym h))
any_at x (y ∷ xs) (suc q) w e = later (nat_eq x y) (any_at x xs q (omega (arith, w)) e)
  where
    later : (s : Bool) → list_any (nat_eq x) xs ≡ true → (s || list_any (nat_eq x) xs) ≡ true
    later true h = refl
    later false h = h

apart_at : (xs : List ℕ) → are_different xs ≡ true → (p q : ℕ) → p < q → q < length xs → slice_index_or xs p 0 ≡ slice_index_or xs q 0 → ⊥
apart_at [] d p q v w e = absurd (omega (arith, w))
apart_at (x ∷ xs) d p zero v w e = absurd (omega (arith, v))
apart_at (x ∷ xs) d zero (suc q) v w e = true≢false (sym (any_at x xs q (omega (arith, w)) e) ∙ from_not (list_any (nat_eq x) xs) (both (not (list_any (nat_eq x) xs)) (are_different xs) d).0)
apart_at (x ∷ xs) d (suc p) (suc q) v w e = apart_at xs (both (not (list_any (nat_eq x) xs)) (are_different xs) d).1 p q (omega (arith, v)) (omega (arith, w)) e

from_apart : (xs : List ℕ) → ((p q : ℕ) → p < q → q < length xs → slice_index_or xs p 0 ≡ slice_index_or xs q 0 → ⊥) → are_different xs ≡ true
from_apart [] h = refl
from_apart (x ∷ xs) h = pair (not (list_any (nat_eq x) xs)) (are_different xs)
    (not_from (list_any (nat_eq x) xs) (is_false (list_any (nat_eq x) xs) (λ i. let a : Any (λ y. nat_eq x y ≡ true) xs = Any-from_list_any (nat_eq x) xs i in
    h 0 (suc a.0) (omega arith) (omega (arith, a.2)) (eqb-true x a.1 a.4 ∙ (sym a.3 ∙ get_or_default xs a.0 a.1 0 a.2)))))
    (from_apart xs (λ p q v w. h (suc p) (suc q) (omega (arith, v)) (omega (arith, w))))

one_place : (a : List ℕ) → are_different a ≡ true → (i j : ℕ) → i < length a → j < length a → slice_index_or a i 0 ≡ slice_index_or a j 0 → i ≡ j
one_place a d i j v w e = elim (cases_order i j) [
  | inl h ↦ h
  | inr h ↦ elim h [ inl l ↦ absurd (apart_at a d i j l w e) | inr l ↦ absurd (apart_at a d j i l v (sym e)) ]
]

different_in_order : (plan places a : List ℕ) → IsOrder plan places (length a) → are_different a ≡ true → are_different (in_order plan a) ≡ true
different_in_order plan places a o d = from_apart (in_order plan a) (λ p q v w e.
    let n : q < length a = omega (arith, w, map_length (λ n. slice_index_or a n 0) plan, o.plan_counted) in
    let m : p < length a = omega (arith, n, v) in
    let f : slice_index_or a (slice_index_or plan p 0) 0 ≡ slice_index_or a (slice_index_or plan q 0) 0 = sym (get_or-map (λ n. slice_index_or a n 0) plan p 0 0 (omega (arith, m, o.plan_counted))) ∙ (e ∙ get_or-map (λ n. slice_index_or a n 0) plan q 0 0 (omega (arith, n, o.plan_counted))) in
    let s : slice_index_or plan p 0 ≡ slice_index_or plan q 0 = one_place a d (slice_index_or plan p 0) (slice_index_or plan q 0) (o.plan_within p m) (o.plan_within q n) f in
    let t : p ≡ q = sym (o.forth p m) ∙ (ap (λ (z : ℕ). slice_index_or places z 0) s ∙ o.forth q n) in
    absurd (omega (arith, v, t)))

-- what a test asks of is the same in both orders
known_in_order : (plan places a : List ℕ) → IsOrder plan places (length a) → (is : List ℕ) → AllByRecursion (λ k. k < length a) is →
    known (in_order plan a) (map (λ k. slice_index_or places k 0) is) ≡ known a is
known_in_order plan places a o [] w = refl
known_in_order plan places a o (i ∷ is) w =
    ap (λ (z : Option ℕ). both_known z (known (in_order plan a) (map (λ k. slice_index_or places k 0) is))) (at_place plan places a o i w.0 ∙ sym (slice_get-get_or a i 0 w.0))
    ∙ ap (both_known (slice_get a i)) (known_in_order plan places a o is w.1)

ties_in_order : (plan places a : List ℕ) → IsOrder plan places (length a) → (ties : List Tie) → AllByRecursion (λ tie. AllByRecursion (λ k. k < length a) tie.at) ties →
    list_all (is_met a) ties ≡ true → list_all (is_met (in_order plan a)) (renumbered places ties) ≡ true
ties_in_order plan places a o [] w h = refl
ties_in_order plan places a o (tie ∷ ties) w h =
    let k : (is_met a tie ≡ true) × (list_all (is_met a) ties ≡ true) = both (is_met a tie) (list_all (is_met a) ties) h in
    pair (is_met (in_order plan a) (record { at = map (λ k. slice_index_or places k 0) tie.at; test = tie.test })) (list_all (is_met (in_order plan a)) (renumbered places ties))
    (ap (λ (z : Option (List ℕ)). option_map_or tie.test z true) (known_in_order plan places a o tie.at w.0) ∙ k.0)
    (ties_in_order plan places a o ties w.1 k.1)

-- what fits in the rule's order fits in the order of mapping
pub fits_in_order : (ties : List Tie) (plan places a : List ℕ) → IsOrder plan places (length a) → DoesFit ties a → fits_so_far (renumbered places ties) (in_order plan a) ≡ true
fits_in_order ties plan places a o d = pair (are_different (in_order plan a)) (list_all (is_met (in_order plan a)) (renumbered places ties)) (different_in_order plan places a o d.different) (ties_in_order plan places a o ties d.known d.met)
