-- Tests of first points: what fails of them fails of each assignment that goes on from them.
use Prim.Native.Nat.{ℕ, zero, suc}
use mathlib.Core.Path.{◌≡◌, refl, sym, subst, ap, ◌∙◌}
use mathlib.Core.Bool.{true≢false}
use mathlib.Core.List.{List, [], ◌∷◌, ◌++◌}
use mathlib.Core.Logic.{◌⊎◌, inl, inr}
use Rattle.std.proofs.lemmas.List.{append_assoc}
use Rattle.std.specs.Prelude.{Bool, true, false, not, ◌&&◌, ◌||◌, nat_eq, Option, None, Some, slice_get}
use Rattle.std.specs.List.{list_any, list_all}
use Rattle.std.specs.Option.{option_map_or}
use Rattle.rule_match.specs.Fitting.{Tie, both_known, known, is_met, are_different, fits_so_far}

pub both : (s t : Bool) → (s && t) ≡ true → (s ≡ true) × (t ≡ true)
both true t h = (refl, h)
both false t h = absurd (true≢false (sym h))

pub pair : (s t : Bool) → s ≡ true → t ≡ true → (s && t) ≡ true
pair true t h k = k
pair false t h k = absurd (true≢false (sym h))

not_both : (s : Bool) → not s ≡ true → s ≡ true → ⊥
not_both true h k = absurd (true≢false (sym h))
not_both false h k = absurd (true≢false (sym k))

-- a position of the front part has the front part's number; any other none there
at_front : (b c : List ℕ) (i : ℕ) → (slice_get b i ≡ None) ⊎ (slice_get (b ++ c) i ≡ slice_get b i)
at_front [] c i = inl refl
at_front (x ∷ b) c zero = inr refl
at_front (x ∷ b) c (suc i) = at_front b c i

-- what is known of the front part is known of the whole
none_right : (o : Option ℕ) → both_known o None ≡ None
none_right None = refl
none_right (Some n) = refl

known_before : (b c is : List ℕ) → (known b is ≡ None) ⊎ (known (b ++ c) is ≡ known b is)
known_before b c [] = inr refl
known_before b c (i ∷ is) = elim (at_front b c i) [
  | inl e ↦ inl (ap (λ (z : Option ℕ). both_known z (known b is)) e)
  | inr e ↦ elim (known_before b c is) [
    | inl f ↦ inl (ap (both_known (slice_get b i)) f ∙ none_right (slice_get b i))
    | inr f ↦ inr (ap (λ (z : Option ℕ). both_known z (known (b ++ c) is)) e ∙ ap (both_known (slice_get b i)) f)
  ]
]

tie_before : (b c : List ℕ) (tie : Tie) → is_met (b ++ c) tie ≡ true → is_met b tie ≡ true
tie_before b c tie h = elim (known_before b c tie.at) [
  | inl e ↦ ap (λ (z : Option (List ℕ)). option_map_or tie.test z true) e
  | inr e ↦ sym (ap (λ (z : Option (List ℕ)). option_map_or tie.test z true) e) ∙ h
]

ties_before : (b c : List ℕ) (ties : List Tie) → list_all (is_met (b ++ c)) ties ≡ true → list_all (is_met b) ties ≡ true
ties_before b c [] h = refl
ties_before b c (tie ∷ ties) h = let k : (is_met (b ++ c) tie ≡ true) × (list_all (is_met (b ++ c)) ties ≡ true) = both (is_met (b ++ c) tie) (list_all (is_met (b ++ c)) ties) h in
    pair (is_met b tie) (list_all (is_met b) ties) (tie_before b c tie k.0) (ties_before b c ties k.1)

-- ---- different numbers
pub any_more : (f : ℕ → Bool) (xs ys : List ℕ) → list_any f xs ≡ true → list_any f (xs ++ ys) ≡ true
any_more f [] ys h = absurd (true≢false (sym h))
any_more f (x ∷ xs) ys h = by_first (f x) h (any_more f xs ys)
  where
    by_first : {s t : Bool} (r : Bool) → (r || s) ≡ true → (s ≡ true → t ≡ true) → (r || t) ≡ true
    by_first true h k = refl
    by_first false h k = k h

any_at : (f : ℕ → Bool) (xs : List ℕ) (p : ℕ) (ys : List ℕ) → f p ≡ true → list_any f (xs ++ p ∷ ys) ≡ true
any_at f [] p ys h = by_first (list_any f ys) (f p) h
  where
    by_first : (s r : Bool) → r ≡ true → (r || s) ≡ true
    by_first s true h = refl
    by_first s false h = absurd (true≢false (sym h))
any_at f (x ∷ xs) p ys h = by_first (f x) (any_at f xs p ys h)
  where
    by_first : {s : Bool} (r : Bool) → s ≡ true → (r || s) ≡ true
    by_first true h = refl
    by_first false h = h

any_last : (f : ℕ → Bool) (xs : List ℕ) (p : ℕ) → list_any f xs ≡ false → f p ≡ false → list_any f (xs ++ p ∷ []) ≡ false
any_last f [] p h k = ap (λ (z : Bool). z || false) k
any_last f (x ∷ xs) p h k = by_first (f x) h (λ i. any_last f xs p i k)
  where
    by_first : {s t : Bool} (r : Bool) → (r || s) ≡ false → (s ≡ false → t ≡ false) → (r || t) ≡ false
    by_first true h k = absurd (true≢false h)
    by_first false h k = k h

pub is_false : (s : Bool) → (s ≡ true → ⊥) → s ≡ false
is_false true h = absurd (h refl)
is_false false h = refl

pub not_from : (s : Bool) → s ≡ false → not s ≡ true
not_from s h = subst (λ (z : Bool). not z ≡ true) (sym h) refl

pub from_not : (s : Bool) → not s ≡ true → s ≡ false
from_not true h = absurd (true≢false (sym h))
from_not false h = refl

different_before : (b c : List ℕ) → are_different (b ++ c) ≡ true → are_different b ≡ true
different_before [] c h = refl
different_before (x ∷ b) c h =
    let k : (not (list_any (nat_eq x) (b ++ c)) ≡ true) × (are_different (b ++ c) ≡ true) = both (not (list_any (nat_eq x) (b ++ c))) (are_different (b ++ c)) h in
    pair (not (list_any (nat_eq x) b)) (are_different b) (not_from (list_any (nat_eq x) b) (is_false (list_any (nat_eq x) b) (λ i. not_both (list_any (nat_eq x) (b ++ c)) k.0 (any_more (nat_eq x) b c i)))) (different_before b c k.1)

different_after : (b : List ℕ) (p : ℕ) → are_different b ≡ true → list_any (λ y. nat_eq y p) b ≡ false → are_different (b ++ p ∷ []) ≡ true
different_after [] p h k = refl
different_after (x ∷ b) p h k =
    let i : (not (list_any (nat_eq x) b) ≡ true) × (are_different b ≡ true) = both (not (list_any (nat_eq x) b)) (are_different b) h in
    let j : (nat_eq x p ≡ false) × (list_any (λ y. nat_eq y p) b ≡ false) = neither (nat_eq x p) (list_any (λ y. nat_eq y p) b) k in
    pair (not (list_any (nat_eq x) (b ++ p ∷ []))) (are_different (b ++ p ∷ [])) (not_from (list_any (nat_eq x) (b ++ p ∷ [])) (any_last (nat_eq x) b p (from_not (list_any (nat_eq x) b) i.0) j.0)) (different_after b p i.1 j.1)
  where
    neither : (s t : Bool) → (s || t) ≡ false → (s ≡ false) × (t ≡ false)
    neither true t h = absurd (true≢false h)
    neither false t h = (refl, h)

not_twice : (b : List ℕ) (p : ℕ) (rest : List ℕ) → list_any (λ y. nat_eq y p) b ≡ true → are_different (b ++ p ∷ rest) ≡ true → ⊥
not_twice [] p rest h k = true≢false (sym h)
not_twice (x ∷ b) p rest h k =
    let i : (not (list_any (nat_eq x) (b ++ p ∷ rest)) ≡ true) × (are_different (b ++ p ∷ rest) ≡ true) = both (not (list_any (nat_eq x) (b ++ p ∷ rest))) (are_different (b ++ p ∷ rest)) k in
    by_first (nat_eq x p) refl h i (λ j. not_twice b p rest j i.1)
  where
    by_first : (r : Bool) → nat_eq x p ≡ r → (r || list_any (λ y. nat_eq y p) b) ≡ true → (not (list_any (nat_eq x) (b ++ p ∷ rest)) ≡ true) × (are_different (b ++ p ∷ rest) ≡ true) → (list_any (λ y. nat_eq y p) b ≡ true → ⊥) → ⊥
    by_first true e h i n = not_both (list_any (nat_eq x) (b ++ p ∷ rest)) i.0 (any_at (nat_eq x) b p rest e)
    by_first false e h i n = n h

-- ---- the two clauses
pub follows : (ties : List Tie) (b : List ℕ) (p : ℕ) → fits_so_far ties b ≡ true → list_any (λ y. nat_eq y p) b ≡ false →
    list_all (is_met (b ++ p ∷ [])) ties ≡ true → fits_so_far ties (b ++ p ∷ []) ≡ true
follows ties b p h k l = pair (are_different (b ++ p ∷ [])) (list_all (is_met (b ++ p ∷ [])) ties) (different_after b p (both (are_different b) (list_all (is_met b) ties) h).0 k) l

pub prefix_fits : (ties : List Tie) (b c : List ℕ) → fits_so_far ties (b ++ c) ≡ true → fits_so_far ties b ≡ true
prefix_fits ties b c h =
    let k : (are_different (b ++ c) ≡ true) × (list_all (is_met (b ++ c)) ties ≡ true) = both (are_different (b ++ c)) (list_all (is_met (b ++ c)) ties) h in
    pair (are_different b) (list_all (is_met b) ties) (different_before b c k.0) (ties_before b c ties k.1)

pub cannot_follow : (ties : List Tie) (b : List ℕ) (p : ℕ) (rest : List ℕ) →
    (list_any (λ y. nat_eq y p) b ≡ true) ⊎ (list_all (is_met (b ++ p ∷ [])) ties ≡ false) → fits_so_far ties (b ++ p ∷ rest) ≡ true → ⊥
cannot_follow ties b p rest (inl h) f = not_twice b p rest h (both (are_different (b ++ p ∷ rest)) (list_all (is_met (b ++ p ∷ rest)) ties) f).0
cannot_follow ties b p rest (inr h) f =
    let g : fits_so_far ties (b ++ p ∷ []) ≡ true = prefix_fits ties (b ++ p ∷ []) rest (subst (λ (z : List ℕ). fits_so_far ties z ≡ true) (sym (append_assoc b (p ∷ []) rest)) f) in
    true≢false (sym (both (are_different (b ++ p ∷ [])) (list_all (is_met (b ++ p ∷ [])) ties) g).1 ∙ h)

pub not_false : (s : Bool) → not s ≡ false → s ≡ true
not_false true h = refl
not_false false h = absurd (true≢false h)
