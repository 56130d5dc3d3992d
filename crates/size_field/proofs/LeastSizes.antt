-- Least sizes over lists of sources. A list may be walked in any order, and a part in which no source leaves less than what was found may be passed over.
use Rattle.std.proofs.Common.{◌≡◌, ℕ, zero, suc, ◌≤◌, ◌<◌, min, List, [], ◌∷◌, ◌++◌, length, refl, ap, ◌∙◌, arith, ◌⊎◌, inl, inr}
use Rattle.std.proofs.lemmas.List.Sums.{fold-append}
use Rattle.std.specs.List.{All, Any, AllByRecursion}
use Rattle.std.proofs.lemmas.List.Elements.{All-nil, All-cons, All-head, All-tail}
use Rattle.grid_geom.specs.declared.Point.{Point}
use Rattle.geom_check.specs.declared.kinds.Source.{Source}
use Rattle.geom_check.specs.Geometry.{IsSource}
use Rattle.size_field.specs.Size.{SizeField, least_size, size_from, size_at, IsLeast}

pub swapped : (n a b : ℕ) → min (min n a) b ≡ min (min n b) a
swapped n a b = omega arith

-- a size that is given first may be given last
pub least_min : (g : ℕ) (q : Point) (a n : ℕ) (ss : List Source) → least_size g q (min n a) ss ≡ min (least_size g q n ss) a
least_min g q a n [] = refl
least_min g q a n (s ∷ ss) = ap (λ (m : ℕ). least_size g q m ss) (swapped n a (size_from g q s)) ∙ least_min g q a (min n (size_from g q s)) ss

pub least_append : (g : ℕ) (q : Point) (n : ℕ) (ss ts : List Source) → least_size g q n (ss ++ ts) ≡ least_size g q (least_size g q n ss) ts
least_append g q n ss ts = fold-append _ n ss ts

-- two lists, in either order
pub least_swap : (g : ℕ) (q : Point) (n : ℕ) (ss ts : List Source) → least_size g q (least_size g q n ss) ts ≡ least_size g q (least_size g q n ts) ss
least_swap g q n [] ts = refl
least_swap g q n (s ∷ ss) ts =
    least_swap g q (min n (size_from g q s)) ss ts
    ∙ ap (λ (m : ℕ). least_size g q m ss) (least_min g q (size_from g q s) n ts)

-- a part may be passed over
pub least_passed : (g : ℕ) (q : Point) (n : ℕ) (ss : List Source) → AllByRecursion (λ s. n ≤ size_from g q s) ss → least_size g q n ss ≡ n
least_passed g q n [] h = refl
least_passed g q n (s ∷ ss) h =
    let same : min n (size_from g q s) ≡ n = omega (arith, h.0) in
    ap (λ (m : ℕ). least_size g q m ss) same ∙ least_passed g q n ss h.1

-- one source more at the end
pub least_push : (g : ℕ) (q : Point) (n : ℕ) (ss : List Source) (s : Source) → least_size g q n (ss ++ s ∷ []) ≡ min (least_size g q n ss) (size_from g q s)
least_push g q n ss s = least_append g q n ss (s ∷ [])

-- a source of the greatest size or above has no effect
pub least_above : (g : ℕ) (q : Point) (n : ℕ) (ss : List Source) (s : Source) → n ≤ s.h → least_size g q n ss ≡ least_size g q n (s ∷ ss)
least_above g q n ss s h = let same : n ≡ min n (size_from g q s) = omega (arith, h) in ap (λ (m : ℕ). least_size g q m ss) same

-- it is at most the size that is given first
pub least_most : (g : ℕ) (q : Point) (n : ℕ) (ss : List Source) → least_size g q n ss ≤ n
least_most g q n [] = omega arith
least_most g q n (s ∷ ss) = let h = least_most g q (min n (size_from g q s)) ss in omega (arith, h)

-- and at least 1 where all sizes are
pub least_positive : (g : ℕ) (q : Point) (n : ℕ) (ss : List Source) → 1 ≤ n → All IsSource ss → 1 ≤ least_size g q n ss
least_positive g q n [] h k = h
least_positive g q n (s ∷ ss) h k = let f = (All-head IsSource s ss k).length.least in least_positive g q (min n (size_from g q s)) ss (omega (arith, f, h)) (All-tail IsSource s ss k)

-- it is at most each, and it is one of them
least_each : (g : ℕ) (q : Point) (n m : ℕ) (ss : List Source) → m ≤ least_size g q n ss → All (λ s. m ≤ size_from g q s) ss
least_each g q n m [] h = All-nil (λ s. m ≤ size_from g q s)
least_each g q n m (s ∷ ss) h =
    let most = least_most g q (min n (size_from g q s)) ss in
    All-cons (λ s. m ≤ size_from g q s) s ss (omega (arith, most, h)) (least_each g q (min n (size_from g q s)) m ss h)

either_of : (a b m : ℕ) → m ≡ min a b → (m ≡ a) ⊎ (m ≡ b)
either_of a b m e = grind arith

at_first : (P : Source → Type 0) (s : Source) (ss : List Source) → P s → Any P (s ∷ ss)
at_first P s ss h = (zero, s, omega arith, refl, h)

at_later : (P : Source → Type 0) (s : Source) (ss : List Source) → Any P ss → Any P (s ∷ ss)
at_later P s ss h = let within : h.0 < length ss = h.2 in (suc h.0, h.1, omega arith, h.3, h.4)

least_reached : (g : ℕ) (q : Point) (n m : ℕ) (ss : List Source) → m ≡ least_size g q n ss → (m ≡ n) ⊎ Any (λ s. m ≡ size_from g q s) ss
least_reached g q n m [] e = inl e
least_reached g q n m (s ∷ ss) e = elim (least_reached g q (min n (size_from g q s)) m ss e) [
  | inl f ↦ elim (either_of n (size_from g q s) m f) [ inl h ↦ inl h | inr h ↦ inr (at_first (λ s. m ≡ size_from g q s) s ss h) ]
  | inr f ↦ inr (at_later (λ s. m ≡ size_from g q s) s ss f)
]

pub is_least : (field : SizeField) (q : Point) → IsLeast field q (size_at field q)
is_least field q = record {
  greatest = least_most field.grading q field.greatest field.sources;
  sources = least_each field.grading q field.greatest (size_at field q) field.sources (omega arith);
  reached = least_reached field.grading q field.greatest (size_at field q) field.sources refl;
}
