-- A list of edges is closed just where its starts and its ends, each sorted, are the same list.
-- Two ascending lists in which each element stands equally often are equal: the first elements are each at most the other. Stands on Counting and ClosedSums, for `closed`.
use Prim.Native.Nat.{ℕ, suc, ◌+◌, ◌<◌, ◌≤◌}
use lib.IntN.{ℤ}
use lib.ListN.{get_or, length}
use lib.Dec.{T}
use lib.Pointwise.{pointwise, pointwise_decides}
use mathlib.Core.Path.{◌≡◌, refl, sym, ap, ◌∙◌, subst}
use mathlib.Core.Bool.{Bool, true, false, cond, ◌&&◌}
use mathlib.Core.List.{List, [], ◌∷◌, map}
use native.Mathlib.Omega.{arith}
use Rattle.std.specs.Bool.{IsTrue}
use Rattle.std.specs.Cmp.{IsTotalOrder}
use Rattle.std.specs.List.{AllByRecursion, sum_by}
use Rattle.std.specs.List.Sorted.{IsPermutation}
use Rattle.std.proofs.Common.{Ordering, Less, Equal, Greater}
use Rattle.std.specs.Ordering.{is_lt, is_gt, int_cmp, int_eq, ordering_reverse, ordering_then}
use Rattle.std.proofs.lemmas.Bool.Decides.{Decides-int_eq}
use Rattle.std.proofs.lemmas.Cmp.{upto, tied_itself, then_total, on_total, int_cmp_total}
use Rattle.std.proofs.lemmas.Map.Lookups.{CmpEqualImpliesEq, exact_pairs, exact_signed}
use Rattle.std.proofs.lemmas.List.Recursion.{is_sum_by}
use Rattle.std.proofs.lemmas.List.Sorted.{sum_by-IsPermutation}
use Rattle.grid_geom.specs.declared.Point.{Point}
use Rattle.grid_geom.specs.declared.Edge.{Edge}
use Rattle.grid_geom.specs.Winding.{and}
use Rattle.grid_geom.specs.Closed.{leaving, arriving, IsClosed}
use Rattle.wind_law.proofs.Counting.{IsTestOfEqual, count, stands, cancel, none_less}
use Rattle.wind_law.proofs.ClosedSums.{both_first, both_second, both_true}

-- ---- ascending lists
-- each element is at most each after it
abbrev IsAscending : {X : Type 0} → (X → X → Ordering) → List X → Type 0
IsAscending R [] = Unit {0}
IsAscending R (x ∷ xs) = AllByRecursion (λ y. is_gt (R x y) ≡ false) xs × IsAscending R xs

turned : (a b : Ordering) → a ≡ ordering_reverse b → is_lt b ≡ false → is_gt a ≡ false
turned a Less e h = absurd (subst (λ (b : Bool). T b) h tt)
turned a Equal e h = ap is_gt e
turned a Greater e h = ap is_gt e

tied : (a b : Ordering) → a ≡ ordering_reverse b → is_gt a ≡ false → is_gt b ≡ false → a ≡ Equal
tied a Less e h j = absurd (subst (λ (b : Bool). T b) (sym (ap is_gt e) ∙ h) tt)
tied a Equal e h j = e
tied a Greater e h j = absurd (subst (λ (b : Bool). T b) j tt)

after_all : {X : Type 0} (R : X → X → Ordering) → IsTotalOrder R → (x y : X) (ys : List X) → is_gt (R x y) ≡ false → AllByRecursion (λ z. is_gt (R y z) ≡ false) ys → AllByRecursion (λ z. is_gt (R x z) ≡ false) ys
after_all R o x y [] h all = tt
after_all R o x y (z ∷ ys) h all = (upto o x y z h all.0, after_all R o x y ys h all.1)

-- what a sort says of neighbours
ascending : {X : Type 0} (R : X → X → Ordering) → IsTotalOrder R → (xs : List X) → ((k : ℕ) (d : X) → 0 ≤ k → k + 1 < length xs → is_lt (R (get_or xs (k + 1) d) (get_or xs k d)) ≡ false) → IsAscending R xs
ascending R o [] f = tt
ascending R o (x ∷ []) f = (tt, tt)
ascending {X} R o (x ∷ y ∷ xs) f = extended R o x y xs (turned (R x y) (R y x) (o.antisymm x y) (f 0 x (omega arith) (omega arith)))
    (ascending R o (y ∷ xs) (λ k d h j. subst (λ (n : ℕ). is_lt (R (get_or (x ∷ y ∷ xs) n d) (get_or (y ∷ xs) k d)) ≡ false) (next k) (f (suc k) d (omega arith) (omega (arith, j)))))
  where
    extended : {X : Type 0} (R : X → X → Ordering) → IsTotalOrder R → (x y : X) (xs : List X) → is_gt (R x y) ≡ false → IsAscending R (y ∷ xs) → IsAscending R (x ∷ y ∷ xs)
    extended R o x y xs first rest = ((first, after_all R o x y xs first rest.0), rest)

    next : (k : ℕ) → suc k + 1 ≡ suc (k + 1)
    next k = omega arith

-- an element of a list has what all its elements have
held : {X : Type 0} (same : X → X → Bool) → IsTestOfEqual same → (P : X → Type 0) (x : X) (ys : List X) → 1 ≤ count same x ys → AllByRecursion P ys → P x
held same t P x [] h all = absurd (none_less h)
held {X} same t P x (y ∷ ys) h all = at_head (same y x) refl h (λ i. held same t P x ys i all.1)
  where
    at_head : (b : Bool) → same y x ≡ b → 1 ≤ cond b 1 0 + count same x ys → (1 ≤ count same x ys → P x) → P x
    at_head true e h later = subst P (t.sound y x e) all.0
    at_head false e h later = later (omega (arith, h))

first_same : {X : Type 0} (R : X → X → Ordering) → IsTotalOrder R → CmpEqualImpliesEq R → (same : X → X → Bool) → IsTestOfEqual same → (x y : X) (xs ys : List X) → IsAscending R (x ∷ xs) → IsAscending R (y ∷ ys) → 1 ≤ count same x (y ∷ ys) → 1 ≤ count same y (x ∷ xs) → x ≡ y
first_same R o exact same t x y xs ys hx hy i j = exact x y (tied (R x y) (R y x) (o.antisymm x y)
    (held same t (λ z. is_gt (R x z) ≡ false) y (x ∷ xs) j (ap is_gt (tied_itself o x), hx.0))
    (held same t (λ z. is_gt (R y z) ≡ false) x (y ∷ ys) i (ap is_gt (tied_itself o y), hy.0)))

same_sorted : {X : Type 0} (R : X → X → Ordering) → IsTotalOrder R → CmpEqualImpliesEq R → (same : X → X → Bool) → IsTestOfEqual same → (xs ys : List X) → IsAscending R xs → IsAscending R ys → ((z : X) → count same z xs ≡ count same z ys) → xs ≡ ys
same_sorted R o exact same t [] [] hx hy h = refl
same_sorted R o exact same t [] (y ∷ ys) hx hy h = absurd (none_less (stands same t y ys 0 (sym (h y))))
same_sorted R o exact same t (x ∷ xs) [] hx hy h = absurd (none_less (stands same t x xs 0 (h x)))
same_sorted {X} R o exact same t (x ∷ xs) (y ∷ ys) hx hy h = ap (λ (z : X). z ∷ xs) heads ∙ ap (λ (l : List X). y ∷ l) (same_sorted R o exact same t xs ys hx.1 hy.1 (λ z. rest z))
  where
    heads : x ≡ y
    heads = first_same R o exact same t x y xs ys hx hy (stands same t x xs (count same x (y ∷ ys)) (h x)) (stands same t y ys (count same y (x ∷ xs)) (sym (h y)))

    rest : (z : X) → count same z xs ≡ count same z ys
    rest z = cancel (cond (same x z) 1 0) (count same z xs) (count same z ys) (count same z (y ∷ ys)) (h z) (ap (λ (w : X). cond (same w z) 1 0 + count same z ys) (sym heads))

-- ---- places as pairs of numbers
abbrev Place : Type 0
Place = ℤ × ℤ

abbrev by_place : Place → Place → Ordering
by_place x y = ordering_then (int_cmp x.0 y.0) (int_cmp x.1 y.1)

by_place_total : IsTotalOrder by_place
by_place_total = then_total (on_total (λ (p : Place). p.0) int_cmp_total) (on_total (λ (p : Place). p.1) int_cmp_total)

abbrev same_place : Place → Place → Bool
same_place x y = and (int_eq x.0 y.0) (int_eq x.1 y.1)

same_pair : (x y : Place) → x.0 ≡ y.0 → x.1 ≡ y.1 → x ≡ y
same_pair x y h j = ap (λ (z : ℤ). (z, x.1)) h ∙ ap (λ (z : ℤ). (y.0, z)) j

place_test : IsTestOfEqual same_place
place_test = record {
  sound = λ x y e. same_pair x y ((Decides-int_eq x.0 y.0).0 (both_first (int_eq x.0 y.0) (int_eq x.1 y.1) e)) ((Decides-int_eq x.1 y.1).0 (both_second (int_eq x.0 y.0) (int_eq x.1 y.1) e));
  reflexive = λ x. both_true (int_eq x.0 x.0) (int_eq x.1 x.1) ((Decides-int_eq x.0 x.0).1 refl) ((Decides-int_eq x.1 x.1).1 refl);
}

-- ---- the ends of a list of edges
abbrev pub start_of : Edge → Place
start_of e = (e.a.x, e.a.y)

abbrev pub end_of : Edge → Place
end_of e = (e.b.x, e.b.y)

count_starts : (w : Point) (es : List Edge) → count same_place (w.x, w.y) (map start_of es) ≡ leaving w es
count_starts w [] = refl
count_starts w (e ∷ es) = ap (λ (n : ℕ). cond (same_place (start_of e) (w.x, w.y)) 1 0 + n) (count_starts w es)

count_ends : (w : Point) (es : List Edge) → count same_place (w.x, w.y) (map end_of es) ≡ arriving w es
count_ends w [] = refl
count_ends w (e ∷ es) = ap (λ (n : ℕ). cond (same_place (end_of e) (w.x, w.y)) 1 0 + n) (count_ends w es)

count_permuted : (z : Place) (xs ys : List Place) → IsPermutation xs ys → count same_place z ys ≡ count same_place z xs
count_permuted z xs ys p = is_sum ys ∙ sum_by-IsPermutation (λ x. cond (same_place x z) 1 0) xs ys p ∙ sym (is_sum xs)
  where
    is_sum : (xs : List Place) → count same_place z xs ≡ sum_by (λ x. cond (same_place x z) 1 0) xs
    is_sum xs = is_sum_by (count same_place z) (λ x. cond (same_place x z) 1 0) refl (λ x xs. refl) xs

-- what a sort leaves of a list
pub record IsSortOf (xs ys : List Place) : Type 0 where
  pub permutation : IsPermutation xs ys
  pub ascends : (k : ℕ) (d : Place) → 0 ≤ k → k + 1 < length ys → is_lt (by_place (get_or ys (k + 1) d) (get_or ys k d)) ≡ false

closed_from : (es : List Edge) (s t : List Place) → IsSortOf (map start_of es) s → IsSortOf (map end_of es) t → s ≡ t → IsClosed es
closed_from es s t hs ht e = record { balanced = λ w. sym (count_starts w es) ∙ sym (count_permuted (w.x, w.y) (map start_of es) s hs.permutation) ∙ ap (count same_place (w.x, w.y)) e ∙ count_permuted (w.x, w.y) (map end_of es) t ht.permutation ∙ count_ends w es }

same_from : (es : List Edge) (s t : List Place) → IsSortOf (map start_of es) s → IsSortOf (map end_of es) t → IsClosed es → s ≡ t
same_from es s t hs ht h = same_sorted by_place by_place_total (exact_pairs int_cmp int_cmp exact_signed exact_signed) same_place place_test s t (ascending by_place by_place_total s hs.ascends) (ascending by_place by_place_total t ht.ascends)
    (λ z. count_permuted z (map start_of es) s hs.permutation ∙ count_starts (at z) es ∙ h.balanced (at z) ∙ sym (count_ends (at z) es) ∙ sym (count_permuted z (map end_of es) t ht.permutation))
  where
    at : Place → Point
    at z = record { x = z.0; y = z.1 }

abbrev pub equal_place : Place → Place → Bool
equal_place x y = int_eq x.0 y.0 && int_eq x.1 y.1

equal_decides : (x y : Place) → (equal_place x y ≡ true → x ≡ y) × (x ≡ y → equal_place x y ≡ true)
equal_decides x y = ((λ e. same_pair x y ((Decides-int_eq x.0 y.0).0 (first (int_eq x.0 y.0) (int_eq x.1 y.1) e)) ((Decides-int_eq x.1 y.1).0 (second (int_eq x.0 y.0) (int_eq x.1 y.1) e))), (λ e. both (int_eq x.0 y.0) (int_eq x.1 y.1) ((Decides-int_eq x.0 y.0).1 (ap (λ (p : Place). p.0) e)) ((Decides-int_eq x.1 y.1).1 (ap (λ (p : Place). p.1) e))))
  where
    first : (a b : Bool) → (a && b) ≡ true → a ≡ true
    first true b e = refl
    first false b e = e

    second : (a b : Bool) → (a && b) ≡ true → b ≡ true
    second true b e = e
    second false b e = absurd (subst (λ (b : Bool). T b) (sym e) tt)

    both : (a b : Bool) → a ≡ true → b ≡ true → (a && b) ≡ true
    both true b e f = f
    both false b e f = e

pub closed_by_sorting : (es : List Edge) (s t : List Place) (b : Bool) → IsSortOf (map start_of es) s → IsSortOf (map end_of es) t → b ≡ pointwise equal_place s t → (IsTrue b → IsClosed es) × (IsClosed es → IsTrue b)
closed_by_sorting es s t b hs ht e = (
  (λ h. closed_from es s t hs ht ((pointwise_decides equal_decides s t).0 (sym e ∙ h))),
  (λ h. e ∙ (pointwise_decides equal_decides s t).1 (same_from es s t hs ht h)),
)
