-- The least pair of numbers with a property, as the property grows by one pair.
use Rattle.std.proofs.Common.{◌≡◌, ◌⊎◌, ℕ, ◌+◌, ◌≤◌, min, refl, Option, Some, None, inl, inr, sym, subst, arith}
use Rattle.geom_check.specs.Refused.{IsLeastPair}
use Rattle.mesh_check.specs.Least.{NotAfter, IsLeast, IsLeastNumber, IsLesser, least_of}

pub after_same : (x : ℕ × ℕ) (i j : ℕ) → x.0 ≡ i → x.1 ≡ j → NotAfter x (i, j)
after_same x i j e f = inr (e, omega arith)

pub after_both : (x y z : ℕ × ℕ) → NotAfter x y → NotAfter y z → NotAfter x z
after_both x y z (inl h) (inl k) = inl (omega arith)
after_both x y z (inl h) (inr k) = inl (omega (arith, k.0))
after_both x y z (inr h) (inl k) = inl (omega (arith, h.0))
after_both x y z (inr h) (inr k) = inr (omega (arith, h.0, k.0), omega (arith, h.1, k.1))

-- the same pairs
pub least_same : (P Q : ℕ → ℕ → Type 0) (best : Option (ℕ × ℕ)) → IsLeast P best → ((i j : ℕ) → P i j → Q i j) → ((i j : ℕ) → Q i j → P i j) → IsLeast Q best
least_same P Q None h to back = λ i j q. h i j (back i j q)
least_same P Q (Some b) h to back = (to b.0 b.1 h.0, λ i j q. h.1 i j (back i j q))

-- one more pair
pub least_more : (P Q : ℕ → ℕ → Type 0) (best : Option (ℕ × ℕ)) (c r : ℕ × ℕ) → IsLeast P best → IsLesser best c r → ((i j : ℕ) → P i j → Q i j) → Q c.0 c.1 → ((i j : ℕ) → Q i j → P i j ⊎ NotAfter c (i, j)) → IsLeast Q (Some r)
least_more P Q None c r h l to here back = (
  subst (λ (x : ℕ × ℕ). Q x.0 x.1) (sym l.kept) here,
  λ i j q. elim (back i j q) [ inl p ↦ absurd (h i j p) | inr e ↦ after_both r c (i, j) l.second e ],
)
least_more P Q (Some b) c r h l to here back = (
  elim l.one [ inl e ↦ subst (λ (x : ℕ × ℕ). Q x.0 x.1) (sym e) (to b.0 b.1 h.0) | inr e ↦ subst (λ (x : ℕ × ℕ). Q x.0 x.1) (sym e) here ],
  λ i j q. elim (back i j q) [ inl p ↦ after_both r b (i, j) l.first (h.1 i j p) | inr e ↦ after_both r c (i, j) l.second e ],
)

-- ---- the least number
pub number_same : (P Q : ℕ → Type 0) (best : Option ℕ) → IsLeastNumber P best → ((i : ℕ) → P i → Q i) → ((i : ℕ) → Q i → P i) → IsLeastNumber Q best
number_same P Q None h to back = λ i q. h i (back i q)
number_same P Q (Some n) h to back = (to n h.0, λ i q. h.1 i (back i q))

-- the least with one of two properties
pub number_either : (P Q R : ℕ → Type 0) (m n : Option ℕ) → IsLeastNumber P m → IsLeastNumber Q n → ((i : ℕ) → P i → R i) → ((i : ℕ) → Q i → R i) → ((i : ℕ) → R i → P i ⊎ Q i) → IsLeastNumber R (least_of m n)
number_either P Q R None None h k p q back = λ i r. elim (back i r) [ inl x ↦ h i x | inr y ↦ k i y ]
number_either P Q R None (Some n) h k p q back = (q n k.0, λ i r. elim (back i r) [ inl x ↦ absurd (h i x) | inr y ↦ k.1 i y ])
number_either P Q R (Some m) None h k p q back = (p m h.0, λ i r. elim (back i r) [ inl x ↦ h.1 i x | inr y ↦ absurd (k i y) ])
number_either P Q R (Some m) (Some n) h k p q back = (
  elim (either m n) [ inl e ↦ subst R (sym e) (p m h.0) | inr e ↦ subst R (sym e) (q n k.0) ],
  λ i r. elim (back i r) [ inl x ↦ lesser_left m n i (h.1 i x) | inr y ↦ lesser_right m n i (k.1 i y) ],
)
  where
    either : (m n : ℕ) → (min m n ≡ m) ⊎ (min m n ≡ n)
    either m n = grind arith

    lesser_left : (m n i : ℕ) → m ≤ i → min m n ≤ i
    lesser_left m n i h = omega arith

    lesser_right : (m n i : ℕ) → n ≤ i → min m n ≤ i
    lesser_right m n i h = omega arith

-- ---- numbers from 1
pub from_one : (P : ℕ → ℕ → Type 0) (x : ℕ × ℕ) → IsLeast P (Some x) → IsLeastPair P (x.0 + 1) (x.1 + 1)
from_one P x h = record { first = x.0; second = x.1; first_number = refl; second_number = refl; holds = h.0; least = h.1 }
