-- A walk from one near line to the next meets all of them, each once: what is still to be met are the near lines of the walk, and from each line to the next it is one less.
use Prim.Native.Nat.{ℕ, zero, suc, ◌+◌}
use lib.ListN.{drop}
use mathlib.Core.Path.{◌≡◌, refl, sym, ap, ◌∙◌, subst}
use mathlib.Core.Bool.{Bool, true, false, cond, not}
use mathlib.Core.List.{List, [], ◌∷◌}
use native.Mathlib.Omega.{arith}
use Rattle.std.specs.Prelude.{nat_eq, filter, Option, Some, None}
use Rattle.std.specs.List.{AllByRecursion, IsDistinct, find, after_first, position_or_len}
use Rattle.std.proofs.lemmas.Map.Keys.{IsDistinct-head, IsDistinct-tail}
use Rattle.grid_geom.specs.declared.Bounds.{Bounds}
use Rattle.front_chain.specs.Front.{FrontState, IsWalk, is_near, first_in_walk, next_in_walk, near_in_walk, still_near}
use Rattle.front_chain.proofs.Lines.{eq_self}

-- ---- a walk over distinct numbers, from one that passes to the next
-- what is still to be met: the number at which the walk stands, and those after it that pass
abbrev still_met : (ℕ → Bool) → List ℕ → Option ℕ → List ℕ
still_met P walk None = []
still_met P walk (Some n) = n ∷ filter P (after_first (nat_eq n) walk)

found_has : (P : ℕ → Bool) (Q : ℕ → Type 0) (xs : List ℕ) (n : ℕ) → AllByRecursion Q xs → find P xs ≡ Some n → Q n
found_has P Q [] n h e = absurd (cc)
found_has P Q (x ∷ xs) n h e = by (P x) e (found_has P Q xs n h.1)
  where
    one : (m n : ℕ) → Some m ≡ Some n → m ≡ n
    one m n e = cc

    by : (b : Bool) → cond b (Some x) (find P xs) ≡ Some n → (find P xs ≡ Some n → Q n) → Q n
    by true k later = subst Q (one x n k) h.0
    by false k later = later k

rest_has : (Q : ℕ → Type 0) (k : ℕ) (xs : List ℕ) → AllByRecursion Q xs → AllByRecursion Q (drop k xs)
rest_has Q zero [] h = tt
rest_has Q zero (x ∷ xs) h = h
rest_has Q (suc k) [] h = tt
rest_has Q (suc k) (x ∷ xs) h = rest_has Q k xs h.1

after_here : (n x : ℕ) (xs : List ℕ) → nat_eq n x ≡ true → after_first (nat_eq n) (x ∷ xs) ≡ xs
after_here n x xs e = ap (λ (b : Bool). drop (cond (not b) (1 + position_or_len (nat_eq n) xs) 0 + 1) (x ∷ xs)) e

after_later : (n x : ℕ) (xs : List ℕ) → nat_eq n x ≡ false → after_first (nat_eq n) (x ∷ xs) ≡ after_first (nat_eq n) xs
after_later n x xs e = ap (λ (b : Bool). drop (cond (not b) (1 + position_or_len (nat_eq n) xs) 0 + 1) (x ∷ xs)) e ∙ ap (λ (k : ℕ). drop k (x ∷ xs)) (one_more (position_or_len (nat_eq n) xs))
  where
    one_more : (k : ℕ) → (1 + k) + 1 ≡ suc (k + 1)
    one_more k = omega arith

-- a number before the walk's place changes nothing
lift : (P : ℕ → Bool) (x : ℕ) (xs ys : List ℕ) → AllByRecursion (λ m. nat_eq x m ≡ false) ys → still_met P (x ∷ xs) (find P ys) ≡ still_met P xs (find P ys)
lift P x xs ys h = by (find P ys) refl
  where
    flip : (m n : ℕ) → nat_eq m n ≡ false → nat_eq n m ≡ false
    flip m n h = grind arith

    by : (o : Option ℕ) → find P ys ≡ o → still_met P (x ∷ xs) o ≡ still_met P xs o
    by None e = refl
    by (Some n) e = ap (λ (zs : List ℕ). n ∷ filter P zs) (after_later n x xs (flip x n (found_has P (λ m. nat_eq x m ≡ false) ys n h e)))

first_met : (P : ℕ → Bool) (xs : List ℕ) → IsDistinct nat_eq xs → filter P xs ≡ still_met P xs (find P xs)
first_met P [] d = refl
first_met P (x ∷ xs) d = by (P x) (first_met P xs (IsDistinct-tail nat_eq x xs d))
  where
    by : (b : Bool) → filter P xs ≡ still_met P xs (find P xs) → cond b (x ∷ filter P xs) (filter P xs) ≡ still_met P (x ∷ xs) (cond b (Some x) (find P xs))
    by true later = ap (λ (zs : List ℕ). x ∷ filter P zs) (sym (after_here x x xs (eq_self x)))
    by false later = later ∙ sym (lift P x xs xs (IsDistinct-head nat_eq x xs d))

next_met : (P : ℕ → Bool) (xs : List ℕ) (n : ℕ) → IsDistinct nat_eq xs → filter P (after_first (nat_eq n) xs) ≡ still_met P xs (find P (after_first (nat_eq n) xs))
next_met P [] n d = refl
next_met P (x ∷ xs) n d = by (nat_eq n x) refl (next_met P xs n (IsDistinct-tail nat_eq x xs d))
  where
    by : (b : Bool) → nat_eq n x ≡ b → filter P (after_first (nat_eq n) xs) ≡ still_met P xs (find P (after_first (nat_eq n) xs)) → filter P (after_first (nat_eq n) (x ∷ xs)) ≡ still_met P (x ∷ xs) (find P (after_first (nat_eq n) (x ∷ xs)))
    by true e later = subst (λ (zs : List ℕ). filter P zs ≡ still_met P (x ∷ xs) (find P zs)) (sym (after_here n x xs e)) (first_met P xs (IsDistinct-tail nat_eq x xs d) ∙ sym (lift P x xs xs (IsDistinct-head nat_eq x xs d)))
    by false e later = subst (λ (zs : List ℕ). filter P zs ≡ still_met P (x ∷ xs) (find P zs)) (sym (after_later n x xs e)) (later
        ∙ sym (lift P x xs (after_first (nat_eq n) xs) (rest_has (λ m. nat_eq x m ≡ false) (position_or_len (nat_eq n) xs + 1) xs (IsDistinct-head nat_eq x xs d))))

-- ---- a front's walk
-- all near lines are still to be met at the first one
pub all_still : (f : FrontState) (b : Bounds) → IsWalk f.walk f.lines → still_near f b (first_in_walk f b) ≡ near_in_walk f b
all_still f b w = sym (first_met (is_near f b) f.walk w.once)

-- and from a line to the next that one is no more
pub rest_still : (f : FrontState) (b : Bounds) (n : ℕ) → IsWalk f.walk f.lines → n ∷ still_near f b (next_in_walk f b n) ≡ still_near f b (Some n)
rest_still f b n w = ap (λ (ns : List ℕ). n ∷ ns) (sym (next_met (is_near f b) f.walk n w.once))
