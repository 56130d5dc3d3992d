-- A list of pairs in which each is as often as its reverse: what the code of `inert` asks, and what balance means. Idle points.
use Prim.Native.Nat.{ℕ, ◌+◌}
use lib.IntN.{pos, ◌-ℤ◌}
use mathlib.Core.Bool.{Bool, true, false, ◌&&◌}
use mathlib.Core.List.{List, [], ◌∷◌, ◌++◌}
use mathlib.Core.Logic.{◌⊎◌, inl, inr}
use mathlib.Core.Path.{◌≡◌, refl, sym, ◌∙◌, subst}
use native.Mathlib.Omega.{arith}
use Rattle.std.specs.Prelude.{nat_eq, if◌then◌else◌, flat_map}
use Rattle.std.specs.List.{AllByRecursion}
use Rattle.std.proofs.lemmas.Int.{ints}
use Rattle.std.proofs.lemmas.Bool.{eqb-true}
use Rattle.rule_reader.specs.declared.rule.MapLine.{MapLine}
use Rattle.rule_reader.specs.declared.rule.Rule.{Rule}
use Rattle.rule_maps.specs.Inert.{sides, leaving, turned_leaving, count, IsBalanced}

count-append : (ps qs : List (ℕ × ℕ)) (i j : ℕ) → count (ps ++ qs) i j ≡ count ps i j + count qs i j
count-append [] qs i j = omega arith
count-append (p ∷ ps) qs i j = omega (arith, count-append ps qs i j)

-- a line that leaves and its reverse
turned : (b c : Bool) → ◌≡◌ {A = ℕ} (if b && c then 1 else 0) (if c && b then 1 else 0)
turned false false = refl
turned false true = refl
turned true false = refl
turned true true = refl

step : (b : Bool) (u w : ℕ) (xs ys : List (ℕ × ℕ)) (i j : ℕ) → count xs i j ≡ count ys j i → count ((if b then (w, u) ∷ [] else []) ++ xs) i j ≡ count ((if b then (u, w) ∷ [] else []) ++ ys) j i
step false u w xs ys i j h = h
step true u w xs ys i j h = omega (arith, h, turned (nat_eq w i) (nat_eq u j))

count_turned : (lines : List MapLine) (i j : ℕ) → count (turned_leaving lines) i j ≡ count (leaving lines) j i
count_turned [] i j = refl
count_turned (l ∷ ls) i j = step l.del l.i l.j (turned_leaving ls) (leaving ls) i j (count_turned ls i j)

-- a pair is nowhere in the list, or what holds of each in it holds of it
counted : (Q : ℕ → ℕ → Type 0) (ps : List (ℕ × ℕ)) (i j : ℕ) → AllByRecursion (λ p. Q p.0 p.1) ps → (count ps i j ≡ 0) ⊎ Q i j
counted Q [] i j h = inl refl
counted Q (p ∷ ps) i j h = by_tests (counted Q ps i j h.1) (nat_eq p.0 i) (nat_eq p.1 j) refl refl
  where
    more : (count ps i j ≡ 0) ⊎ Q i j → (0 + count ps i j ≡ 0) ⊎ Q i j
    more (inl e) = inl (omega (arith, e))
    more (inr q) = inr q

    by_tests : (count ps i j ≡ 0) ⊎ Q i j → (b c : Bool) → nat_eq p.0 i ≡ b → nat_eq p.1 j ≡ c → ((if b && c then 1 else 0) + count ps i j ≡ 0) ⊎ Q i j
    by_tests rest true true e f = inr (subst (λ (m : ℕ). Q m j) (eqb-true p.0 i e) (subst (λ (m : ℕ). Q p.0 m) (eqb-true p.1 j f) h.0))
    by_tests rest true false e f = more rest
    by_tests rest false c e f = more rest

abbrev pub even : List (ℕ × ℕ) → ℕ → ℕ → Type 0
even ps i j = count ps i j ≡ count ps j i

even_all : (ps : List (ℕ × ℕ)) → AllByRecursion (λ p. even ps p.0 p.1) ps → (i j : ℕ) → even ps i j
even_all ps h i j = elim (counted (even ps) ps i j h) [
  | inr e ↦ e
  | inl e ↦ elim (counted (even ps) ps j i h) [ inr f ↦ sym f | inl f ↦ e ∙ sym f ]
]

each_of : (Q : ℕ → ℕ → Type 0) (ps : List (ℕ × ℕ)) → ((i j : ℕ) → Q i j) → AllByRecursion (λ p. Q p.0 p.1) ps
each_of Q [] h = tt
each_of Q (p ∷ ps) h = (h p.0 p.1, each_of Q ps h)

-- the pairs that the code lists
abbrev pub pairs_of : Rule → List (ℕ × ℕ)
pairs_of r = (flat_map sides r.elements ++ r.new_lines) ++ turned_leaving r.lines

counts : (r : Rule) (i j : ℕ) → count (pairs_of r) i j ≡ count (flat_map sides r.elements) i j + count r.new_lines i j + count (leaving r.lines) j i
counts r i j = omega (arith, count-append (flat_map sides r.elements ++ r.new_lines) (turned_leaving r.lines) i j, count-append (flat_map sides r.elements) r.new_lines i j, count_turned r.lines i j)

even_net : (a b c d e f : ℕ) {m n : ℕ} → m ≡ a + c + f → n ≡ b + d + e → m ≡ n → pos a -ℤ pos b ≡ (pos e -ℤ pos f) -ℤ (pos c -ℤ pos d)
even_net a b c d e f {m} {n} h j k = omega (arith, ints, h, j, k)

net_even : (a b c d e f : ℕ) {m n : ℕ} → m ≡ a + c + f → n ≡ b + d + e → pos a -ℤ pos b ≡ (pos e -ℤ pos f) -ℤ (pos c -ℤ pos d) → m ≡ n
net_even a b c d e f {m} {n} h j k = omega (arith, ints, h, j, k)

pub balanced_of : (r : Rule) → AllByRecursion (λ p. even (pairs_of r) p.0 p.1) (pairs_of r) → IsBalanced r
balanced_of r h = record { balanced = λ i j. even_net (count (flat_map sides r.elements) i j) (count (flat_map sides r.elements) j i) (count r.new_lines i j) (count r.new_lines j i) (count (leaving r.lines) i j) (count (leaving r.lines) j i) (counts r i j) (counts r j i) (even_all (pairs_of r) h i j) }

pub even_of : (r : Rule) → IsBalanced r → AllByRecursion (λ p. even (pairs_of r) p.0 p.1) (pairs_of r)
even_of r h = each_of (even (pairs_of r)) (pairs_of r) (λ i j. net_even (count (flat_map sides r.elements) i j) (count (flat_map sides r.elements) j i) (count r.new_lines i j) (count r.new_lines j i) (count (leaving r.lines) i j) (count (leaving r.lines) j i) (counts r i j) (counts r j i) (h.balanced i j))
