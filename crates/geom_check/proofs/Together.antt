-- All domains together: their winding number is the sum of those of the single domains.
use Rattle.std.proofs.Common.{◌≡◌, ℕ, zero, suc, ◌+◌, ◌<◌, ◌≤◌, ◌==◌, nat_lt, Bool, true, false, List, [], ◌∷◌, All, Some, None, sum_by, sym, ◌∙◌, subst, refl, arith, ◌⊎◌, inl, inr}
use lib.IntN.{ℤ, pos, ◌+ℤ◌, ◌-ℤ◌}
use lib.Signed.{◌≤ℤ◌}
use Rattle.std.proofs.lemmas.Int.{ints}
use Rattle.std.proofs.lemmas.Bool.{cases_lt}
use Rattle.std.proofs.lemmas.List.Sums.{sum_by-cons}
use Rattle.grid_geom.specs.declared.RatPoint.{RatPoint}
use Rattle.grid_geom.specs.Winding.{and}
use Rattle.geom_check.specs.declared.risers.Riser.{Riser}
use Rattle.geom_check.specs.Accepted.{IsZeroOrOne}
use Rattle.geom_check.specs.Risers.{is_chosen, one_if, covers, winding_of}

-- the sum of f over the numbers from 1 to n
abbrev pub total : (ℕ → ℤ) → ℕ → ℤ
total f zero = pos 0
total f (suc n) = total f n +ℤ f (suc n)

-- ---- the law
-- m is a number from 1 to n
abbrev is_among : ℕ → ℕ → Bool
is_among n m = and (nat_lt 0 m) (nat_lt m (n + 1))

none_among : (c : Bool) (m : ℕ) → one_if (and c (is_among 0 m)) ≡ 0
none_among true m = grind arith
none_among false m = refl

one_more : (c : Bool) (n m : ℕ) → one_if (and c (is_among (suc n) m)) ≡ one_if (and c (is_among n m)) + one_if (and c (m == suc n))
one_more true n m = grind arith
one_more false n m = refl

any_among : (c : Bool) (n m : ℕ) → m ≤ n → one_if (and c (is_among n m)) ≡ one_if (and c (nat_lt 0 m))
any_among true n m h = grind arith
any_among false n m h = refl

sum_none : (test : Riser → Bool) (side : Riser → ℕ) (rs : List Riser) → sum_by (λ r. one_if (and (test r) (is_among 0 (side r)))) rs ≡ 0
sum_none test side [] = refl
sum_none test side (r ∷ rs) = sum_by-cons (λ r. one_if (and (test r) (is_among 0 (side r)))) r rs ∙ both _ _ (none_among (test r) (side r)) (sum_none test side rs)
  where
    both : (m n : ℕ) → m ≡ 0 → n ≡ 0 → m + n ≡ 0
    both m n e f = omega arith

sum_more : (test : Riser → Bool) (side : Riser → ℕ) (n : ℕ) (rs : List Riser) →
    sum_by (λ r. one_if (and (test r) (is_among (suc n) (side r)))) rs ≡ sum_by (λ r. one_if (and (test r) (is_among n (side r)))) rs + sum_by (λ r. one_if (and (test r) (side r == suc n))) rs
sum_more test side n [] = refl
sum_more test side n (r ∷ rs) =
    added _ _ _ _ _ _ _ _ _ (sum_by-cons (λ r. one_if (and (test r) (is_among (suc n) (side r)))) r rs) (sum_by-cons (λ r. one_if (and (test r) (is_among n (side r)))) r rs) (sum_by-cons (λ r. one_if (and (test r) (side r == suc n))) r rs)
    (one_more (test r) n (side r)) (sum_more test side n rs)
  where
    added : (s t u a b c k l m : ℕ) → s ≡ a + k → t ≡ b + l → u ≡ c + m → a ≡ b + c → k ≡ l + m → s ≡ t + u
    added s t u a b c k l m e f g h j = omega arith

sum_any : (test : Riser → Bool) (side : Riser → ℕ) (n : ℕ) (rs : List Riser) → All (λ r. side r ≤ n) rs → sum_by (λ r. one_if (and (test r) (is_among n (side r)))) rs ≡ sum_by (λ r. one_if (and (test r) (nat_lt 0 (side r)))) rs
sum_any test side n [] all = refl
sum_any test side n (r ∷ rs) all =
    added _ _ _ _ _ _ (sum_by-cons (λ r. one_if (and (test r) (is_among n (side r)))) r rs) (sum_by-cons (λ r. one_if (and (test r) (nat_lt 0 (side r)))) r rs) (any_among (test r) n (side r) (all 0 r (omega arith)))
    (sum_any test side n rs (λ i d h. all (suc i) d (omega arith)))
  where
    added : (s t a b k l : ℕ) → s ≡ a + k → t ≡ b + l → a ≡ b → k ≡ l → s ≡ t
    added s t a b k l e f g h = omega arith

total_is : (q : RatPoint) (rs : List Riser) (n : ℕ) → total (λ d. winding_of (is_chosen (Some d)) q rs) n ≡ winding_of (is_among n) q rs
total_is q rs zero = nothing _ _ (sum_none (covers q) (λ r. r.west) rs) (sum_none (covers q) (λ r. r.east) rs)
  where
    nothing : (m n : ℕ) → m ≡ 0 → n ≡ 0 → pos 0 ≡ pos m -ℤ pos n
    nothing m n e f = omega (arith, ints)
total_is q rs (suc n) = added _ _ _ _ _ _ _ (total_is q rs n) (sum_more (covers q) (λ r. r.west) n rs) (sum_more (covers q) (λ r. r.east) n rs)
  where
    added : (t : ℤ) (w e wn en wo eo : ℕ) → t ≡ pos wn -ℤ pos en → w ≡ wn + wo → e ≡ en + eo → t +ℤ (pos wo -ℤ pos eo) ≡ pos w -ℤ pos e
    added t w e wn en wo eo f g h = omega (arith, ints)

-- both sides of the riser are at most n
pub record HasSidesTo (n : ℕ) (r : Riser) : Type 0 where
  pub west : r.west ≤ n
  pub east : r.east ≤ n

-- the winding number of all domains together is the sum of those of the domains from 1 to the greatest
pub together : (q : RatPoint) (rs : List Riser) (n : ℕ) → All (HasSidesTo n) rs → winding_of (is_chosen None) q rs ≡ total (λ d. winding_of (is_chosen (Some d)) q rs) n
together q rs n all = sym (total_is q rs n ∙ joined _ _ _ _ (sum_any (covers q) (λ r. r.west) n rs (λ i d h. (all i d h).west)) (sum_any (covers q) (λ r. r.east) n rs (λ i d h. (all i d h).east)))
  where
    joined : (w e v f : ℕ) → w ≡ v → e ≡ f → pos w -ℤ pos e ≡ pos v -ℤ pos f
    joined w e v f g h = omega (arith, ints)

-- ---- sums of numbers that are 0 or 1
-- f is 0 or 1 from 1 to n
abbrev pub AreSides : (ℕ → ℤ) → ℕ → Type 0
AreSides f n = (d : ℕ) → 0 < d → d ≤ n → IsZeroOrOne (f d)

-- f is 1 at two numbers from 1 to n
pub record HasTwo (f : ℕ → ℤ) (n : ℕ) : Type 0 where
  pub c : ℕ
  pub d : ℕ
  pub positive : 0 < c
  pub ordered : c < d
  pub within : d ≤ n
  pub at_c : f c ≡ pos 1
  pub at_d : f d ≡ pos 1

-- f is 1 at a number from 1 to n, and adds up to 1
record HasOne (f : ℕ → ℤ) (n : ℕ) : Type 0 where
  c : ℕ
  positive : 0 < c
  within : c ≤ n
  at_c : f c ≡ pos 1
  once : total f n ≡ pos 1

pub total_zero : (f : ℕ → ℤ) (n : ℕ) → ((d : ℕ) → 0 < d → d ≤ n → f d ≡ pos 0) → total f n ≡ pos 0
total_zero f zero none = refl
total_zero f (suc n) none = both _ _ (total_zero f n (λ d h k. none d h (omega arith))) (none (suc n) (omega arith) (omega arith))
  where
    both : (x y : ℤ) → x ≡ pos 0 → y ≡ pos 0 → x +ℤ y ≡ pos 0
    both x y e g = omega (arith, ints)

-- the sum is 0, or 1 with one 1, or there are two
counted : (f : ℕ → ℤ) (n : ℕ) → AreSides f n → (total f n ≡ pos 0) ⊎ (HasOne f n ⊎ HasTwo f n)
counted f zero sides = inl refl
counted f (suc n) sides = next (counted f n (λ d h k. sides d h (omega arith))) (sides (suc n) (omega arith) (omega arith))
  where
    plus : (x y z w : ℤ) → x ≡ z → y ≡ w → x +ℤ y ≡ z +ℤ w
    plus x y z w e g = omega (arith, ints)

    next : (total f n ≡ pos 0) ⊎ (HasOne f n ⊎ HasTwo f n) → IsZeroOrOne (f (suc n)) → (total f (suc n) ≡ pos 0) ⊎ (HasOne f (suc n) ⊎ HasTwo f (suc n))
    next (inl e) (inl z) = inl (plus (total f n) (f (suc n)) (pos 0) (pos 0) e z)
    next (inl e) (inr z) = inr (inl (record { c = suc n; positive = omega arith; within = omega arith; at_c = z; once = plus (total f n) (f (suc n)) (pos 0) (pos 1) e z }))
    next (inr (inl o)) (inl z) = inr (inl (record { c = o.c; positive = o.positive; within = omega (arith, o.within); at_c = o.at_c; once = plus (total f n) (f (suc n)) (pos 1) (pos 0) o.once z }))
    next (inr (inl o)) (inr z) = inr (inr (record { c = o.c; d = suc n; positive = o.positive; ordered = omega (arith, o.within); within = omega arith; at_c = o.at_c; at_d = z }))
    next (inr (inr t)) s = inr (inr (record { c = t.c; d = t.d; positive = t.positive; ordered = t.ordered; within = omega (arith, t.within); at_c = t.at_c; at_d = t.at_d }))

pub two_of_total : (f : ℕ → ℤ) (n : ℕ) → AreSides f n → ¬ (IsZeroOrOne (total f n)) → HasTwo f n
two_of_total f n sides other = elim (counted f n sides) [
  | inl e ↦ absurd (other (inl e))
  | inr r ↦ elim r [ inl o ↦ absurd (other (inr o.once)) | inr t ↦ t ]
]

not_negative : (x : ℤ) → IsZeroOrOne x → pos 0 ≤ℤ x
not_negative x (inl e) = omega (arith, ints)
not_negative x (inr e) = omega (arith, ints)

at_least_none : (f : ℕ → ℤ) (n : ℕ) → AreSides f n → pos 0 ≤ℤ total f n
at_least_none f zero sides = omega (arith, ints)
at_least_none f (suc n) sides = both (total f n) (f (suc n)) (at_least_none f n (λ d h k. sides d h (omega arith))) (not_negative (f (suc n)) (sides (suc n) (omega arith) (omega arith)))
  where
    both : (x y : ℤ) → pos 0 ≤ℤ x → pos 0 ≤ℤ y → pos 0 ≤ℤ (x +ℤ y)
    both x y h k = omega (arith, ints)

at_least_one : (f : ℕ → ℤ) (n c : ℕ) → AreSides f n → 0 < c → c ≤ n → f c ≡ pos 1 → pos 1 ≤ℤ total f n
at_least_one f zero c sides h k e = absurd (omega arith)
at_least_one f (suc n) c sides h k e = elim (cases_lt n c) [
  | inl l ↦ last (total f n) (f (suc n)) (at_least_none f n (λ d i j. sides d i (omega arith))) (let g : c ≡ suc n = omega arith in subst (λ (z : ℕ). f z ≡ pos 1) g e)
  | inr l ↦ more (total f n) (f (suc n)) (at_least_one f n c (λ d i j. sides d i (omega arith)) h l e) (not_negative (f (suc n)) (sides (suc n) (omega arith) (omega arith)))
]
  where
    last : (x y : ℤ) → pos 0 ≤ℤ x → y ≡ pos 1 → pos 1 ≤ℤ (x +ℤ y)
    last x y h e = omega (arith, ints)

    more : (x y : ℤ) → pos 1 ≤ℤ x → pos 0 ≤ℤ y → pos 1 ≤ℤ (x +ℤ y)
    more x y h k = omega (arith, ints)

at_least_two : (f : ℕ → ℤ) (n c d : ℕ) → AreSides f n → 0 < c → c < d → d ≤ n → f c ≡ pos 1 → f d ≡ pos 1 → pos 2 ≤ℤ total f n
at_least_two f zero c d sides h o k e g = absurd (omega arith)
at_least_two f (suc n) c d sides h o k e g = elim (cases_lt n d) [
  | inl l ↦ last (total f n) (f (suc n)) (at_least_one f n c (λ a i j. sides a i (omega arith)) h (omega arith) e) (let m : d ≡ suc n = omega arith in subst (λ (z : ℕ). f z ≡ pos 1) m g)
  | inr l ↦ more (total f n) (f (suc n)) (at_least_two f n c d (λ a i j. sides a i (omega arith)) h o l e g) (not_negative (f (suc n)) (sides (suc n) (omega arith) (omega arith)))
]
  where
    last : (x y : ℤ) → pos 1 ≤ℤ x → y ≡ pos 1 → pos 2 ≤ℤ (x +ℤ y)
    last x y h e = omega (arith, ints)

    more : (x y : ℤ) → pos 2 ≤ℤ x → pos 0 ≤ℤ y → pos 2 ≤ℤ (x +ℤ y)
    more x y h k = omega (arith, ints)

no_side : (x : ℤ) → pos 2 ≤ℤ x → IsZeroOrOne x → ⊥
no_side x h (inl e) = omega (arith, ints)
no_side x h (inr e) = omega (arith, ints)

pub total_of_two : (f : ℕ → ℤ) (n : ℕ) → AreSides f n → HasTwo f n → ¬ (IsZeroOrOne (total f n))
total_of_two f n sides t = no_side (total f n) (at_least_two f n t.c t.d sides t.positive t.ordered t.within t.at_c t.at_d)
