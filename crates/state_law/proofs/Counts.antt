-- How often an edge stands in a list, by whether it is in it; in a front without doubles and reverses it is once, and its reverse not at all.
use Prim.Native.Nat.{ℕ, ◌+◌, ◌≤◌}
use lib.IntN.{pos, ◌-ℤ◌}
use lib.Signed.{◌≤ℤ◌}
use lib.Dec.{T}
use mathlib.Core.Path.{◌≡◌, refl, sym, ap, ◌∙◌, subst}
use mathlib.Core.Bool.{Bool, true, false, cond}
use mathlib.Core.List.{List, [], ◌∷◌}
use mathlib.Core.Logic.{◌⊎◌, inl, inr}
use native.Mathlib.Omega.{arith}
use Rattle.std.proofs.lemmas.Int.{ints}
use Rattle.std.specs.List.{AllByRecursion}
use Rattle.grid_geom.specs.declared.Edge.{Edge}
use Rattle.grid_geom.specs.Closed.{IsEdge}
use Rattle.wind_law.specs.Chains.{back, same_edge, times}
use Rattle.wind_law.proofs.ClosedSums.{edge_test}
use Rattle.state_law.specs.Free.{AreFreeOf, AreAlike, IsIn}
use Rattle.state_law.specs.Net.{net}
use Rattle.state_law.proofs.Lists.{all_map}
use Rattle.state_law.proofs.GluedFree.{alike_or_not, others_free}

pub same_true : (e s : Edge) → e ≡ s → same_edge e s ≡ true
same_true e s h = subst (λ (z : Edge). same_edge e z ≡ true) h (edge_test.reflexive e)

pub in_or_not : (x : Edge) (es : List Edge) → IsIn x es ⊎ ¬ (IsIn x es)
in_or_not x [] = inr (λ i. i)
in_or_not x (f ∷ es) = elim (alike_or_not f x) [
  | inl i ↦ inl (inl i)
  | inr n ↦ elim (in_or_not x es) [ inl i ↦ inl (inr i) | inr m ↦ inr (λ z. elim z [ inl i ↦ n i | inr i ↦ m i ]) ]
]

never : (x f : Edge) → ¬ (f ≡ x) → ◌≡◌ {A = ℕ} (cond (same_edge f x) 1 0) 0
never x f n = test (same_edge f x) refl
  where
    test : (b : Bool) → same_edge f x ≡ b → ◌≡◌ {A = ℕ} (cond b 1 0) 0
    test true i = absurd (n (edge_test.sound f x i))
    test false i = refl

pub times_none : (x : Edge) (es : List Edge) → AllByRecursion (λ f. ¬ (f ≡ x)) es → times x es ≡ 0
times_none x [] h = refl
times_none x (f ∷ es) h = none (cond (same_edge f x) 1 0) (times x es) (never x f h.0) (times_none x es h.1)
  where
    none : (m n : ℕ) → m ≡ 0 → n ≡ 0 → m + n ≡ 0
    none m n e f = omega arith

pub times_some : (x : Edge) (es : List Edge) → IsIn x es → 1 ≤ times x es
times_some x [] i = absurd i
times_some x (f ∷ es) (inl i) = first (same_edge f x) (times x es) (same_true f x i)
  where
    first : (b : Bool) (n : ℕ) → b ≡ true → 1 ≤ cond b 1 0 + n
    first true n e = omega arith
    first false n e = absurd (subst (λ (b : Bool). T b) (sym e) tt)
times_some x (f ∷ es) (inr i) = later (cond (same_edge f x) 1 0) (times x es) (times_some x es i)
  where
    later : (m n : ℕ) → 1 ≤ n → 1 ≤ m + n
    later m n h = omega arith

not_in_all : (x : Edge) (es : List Edge) → ¬ (IsIn x es) → AllByRecursion (λ f. ¬ (f ≡ x)) es
not_in_all x [] n = tt
not_in_all x (f ∷ es) n = (λ i. n (inl i), not_in_all x es (λ i. n (inr i)))

pub times_not_in : (x : Edge) (es : List Edge) → ¬ (IsIn x es) → times x es ≡ 0
times_not_in x es n = times_none x es (not_in_all x es n)

pub in_by_times : (x : Edge) (es : List Edge) → 1 ≤ times x es → IsIn x es
in_by_times x es h = elim (in_or_not x es) [ inl i ↦ i | inr n ↦ absurd (off (times x es) h (times_not_in x es n)) ]
  where
    off : (m : ℕ) → 1 ≤ m → m ≡ 0 → ⊥
    off m h e = omega arith

-- ---- in a front without doubles and reverses
pub alike_turned : (e f : Edge) → AreAlike e f → AreAlike f e
alike_turned e f (inl i) = inl (sym i)
alike_turned e f (inr i) = inr (ap back (sym i))

pub times_most : (x : Edge) (es : List Edge) → AreFreeOf AreAlike es → times x es ≤ 1
times_most x [] h = omega arith
times_most x (f ∷ es) h = elim (alike_or_not f x) [
  | inl i ↦ first (same_edge f x) (times x es) (times_none x es (all_map (λ g. ¬ (AreAlike f g)) (λ g. ¬ (g ≡ x)) (λ g n j. n (inl (i ∙ sym j))) es h.0))
  | inr n ↦ later (cond (same_edge f x) 1 0) (times x es) (never x f n) (times_most x es h.1)
]
  where
    first : (b : Bool) (n : ℕ) → n ≡ 0 → cond b 1 0 + n ≤ 1
    first true n e = omega arith
    first false n e = omega arith

    later : (m n : ℕ) → m ≡ 0 → n ≤ 1 → m + n ≤ 1
    later m n e h = omega arith

pub no_reverse_in : (x : Edge) (es : List Edge) → IsEdge x → AreFreeOf AreAlike es → IsIn x es → times (back x) es ≡ 0
no_reverse_in x es n h i = times_none (back x) es (all_map (λ f. (f ≡ x) ⊎ ¬ (AreAlike x f)) (λ f. ¬ (f ≡ back x)) (λ f z j. cases f z j) es (others_free AreAlike alike_turned x es h i))
  where
    cases : (f : Edge) → (f ≡ x) ⊎ ¬ (AreAlike x f) → f ≡ back x → ⊥
    cases f (inl j) k = n (ap (λ (z : Edge). z.a) (sym j ∙ k))
    cases f (inr m) k = m (inr (ap back (sym k)))

pub net_in : (x : Edge) (es : List Edge) → IsEdge x → AreFreeOf AreAlike es → IsIn x es → pos 1 ≤ℤ net x es
net_in x es n h i = one (times x es) (times (back x) es) (times_some x es i) (no_reverse_in x es n h i)
  where
    one : (m n : ℕ) → 1 ≤ m → n ≡ 0 → pos 1 ≤ℤ (pos m -ℤ pos n)
    one m n h e = omega (arith, ints)
