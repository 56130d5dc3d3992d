-- Signs of products and of factors, cases of two numbers, cancelling a positive factor. Names of products by signs: `pos` above 0, `neg` below,
-- `nn` not below 0, `np` not above. Stands on Ring.
use lib.IntN.{ℤ, pos, negsuc, ◌-ℤ◌, ◌*ℤ◌}
use lib.Signed.{◌<ℤ◌, ◌≤ℤ◌}
use Prim.Native.Nat.{ℕ, ◌*◌, ◌≤◌}
use mathlib.Core.Path.{◌≡◌, refl}
use mathlib.Core.List.{[], ◌∷◌}
use mathlib.Core.Logic.{◌⊎◌, inl, inr}
use native.Mathlib.Omega.{arith}
use Rattle.std.proofs.lemmas.Int.{ints}
use Rattle.grid_geom.proofs.Ring.{var, num, ◌⊖◌, ◌⊗◌, ring}

pub nn_mul : (a b : ℤ) → pos 0 ≤ℤ a → pos 0 ≤ℤ b → pos 0 ≤ℤ (a *ℤ b)
nn_mul (pos a) (pos b) h k = omega (arith, ints)
nn_mul (pos a) (negsuc b) h k = absurd (omega (arith, ints))
nn_mul (negsuc a) b h k = absurd (omega (arith, ints))

at_least : (a b : ℕ) → 1 ≤ a → 1 ≤ b → 1 ≤ a * b
at_least a b h k = grind arith

pub pos_mul : (a b : ℤ) → pos 0 <ℤ a → pos 0 <ℤ b → pos 0 <ℤ (a *ℤ b)
pos_mul (pos a) (pos b) h k = omega (arith, ints, at_least a b (omega (arith, ints)) (omega (arith, ints)))
pos_mul (pos a) (negsuc b) h k = absurd (omega (arith, ints))
pos_mul (negsuc a) b h k = absurd (omega (arith, ints))

negs : (a b : ℤ) → (pos 0 -ℤ a) *ℤ (pos 0 -ℤ b) ≡ a *ℤ b
negs a b = ring (a ∷ b ∷ []) ((num (pos 0) ⊖ var 0) ⊗ (num (pos 0) ⊖ var 1)) (var 0 ⊗ var 1) refl

neg_l : (a b : ℤ) → (pos 0 -ℤ a) *ℤ b ≡ pos 0 -ℤ a *ℤ b
neg_l a b = ring (a ∷ b ∷ []) ((num (pos 0) ⊖ var 0) ⊗ var 1) (num (pos 0) ⊖ var 0 ⊗ var 1) refl

neg_r : (a b : ℤ) → a *ℤ (pos 0 -ℤ b) ≡ pos 0 -ℤ a *ℤ b
neg_r a b = ring (a ∷ b ∷ []) (var 0 ⊗ (num (pos 0) ⊖ var 1)) (num (pos 0) ⊖ var 0 ⊗ var 1) refl

pub np_mul : (a b : ℤ) → a ≤ℤ pos 0 → b ≤ℤ pos 0 → pos 0 ≤ℤ (a *ℤ b)
np_mul a b h j = omega (arith, ints, negs a b, nn_mul (pos 0 -ℤ a) (pos 0 -ℤ b) (omega (arith, ints)) (omega (arith, ints)))

pub nn_np_mul : (a b : ℤ) → pos 0 ≤ℤ a → b ≤ℤ pos 0 → (a *ℤ b) ≤ℤ pos 0
nn_np_mul a b h j = omega (arith, ints, neg_r a b, nn_mul a (pos 0 -ℤ b) h (omega (arith, ints)))

pub np_nn_mul : (a b : ℤ) → a ≤ℤ pos 0 → pos 0 ≤ℤ b → (a *ℤ b) ≤ℤ pos 0
np_nn_mul a b h j = omega (arith, ints, neg_l a b, nn_mul (pos 0 -ℤ a) b (omega (arith, ints)) j)

pub neg_mul_neg : (a b : ℤ) → a <ℤ pos 0 → b <ℤ pos 0 → pos 0 <ℤ (a *ℤ b)
neg_mul_neg a b h j = omega (arith, ints, negs a b, pos_mul (pos 0 -ℤ a) (pos 0 -ℤ b) (omega (arith, ints)) (omega (arith, ints)))

pub pos_mul_neg : (a b : ℤ) → pos 0 <ℤ a → b <ℤ pos 0 → (a *ℤ b) <ℤ pos 0
pos_mul_neg a b h j = omega (arith, ints, neg_r a b, pos_mul a (pos 0 -ℤ b) h (omega (arith, ints)))

pub either : (a b : ℤ) → (a ≤ℤ b) ⊎ (b <ℤ a)
either a b = grind (arith, ints)

pub ordered : (a b : ℤ) → (a <ℤ b) ⊎ ((a ≡ b) ⊎ (b <ℤ a))
ordered a b = grind (arith, ints)

clash : (a : ℤ) → a <ℤ pos 0 → pos 0 ≤ℤ a → ⊥
clash a h j = omega (arith, ints)

-- the sign of one factor from that of the other
pub neg_factor : (a b : ℤ) → (a *ℤ b) <ℤ pos 0 → a <ℤ pos 0 → pos 0 <ℤ b
neg_factor a b h j = elim (either b (pos 0)) [ inl n ↦ absurd (clash (a *ℤ b) h (np_mul a b (omega (arith, ints)) n)) | inr p ↦ p ]

pub nn_factor : (a b : ℤ) → (a *ℤ b) <ℤ pos 0 → pos 0 ≤ℤ a → b <ℤ pos 0
nn_factor a b h j = elim (either (pos 0) b) [ inl n ↦ absurd (clash (a *ℤ b) h (nn_mul a b j n)) | inr p ↦ p ]

pub pos_factor : (a b : ℤ) → pos 0 <ℤ (a *ℤ b) → pos 0 ≤ℤ a → pos 0 <ℤ b
pos_factor a b h j = elim (either b (pos 0)) [ inl n ↦ absurd (omega (arith, ints, h, nn_np_mul a b j n)) | inr p ↦ p ]

pub np_factor : (a b : ℤ) → pos 0 <ℤ (a *ℤ b) → a ≤ℤ pos 0 → b <ℤ pos 0
np_factor a b h j = elim (either (pos 0) b) [ inl n ↦ absurd (omega (arith, ints, h, np_nn_mul a b j n)) | inr p ↦ p ]

minus_mul : (u w k : ℤ) → (u -ℤ w) *ℤ k ≡ u *ℤ k -ℤ w *ℤ k
minus_mul u w k = ring (u ∷ w ∷ k ∷ []) ((var 0 ⊖ var 1) ⊗ var 2) (var 0 ⊗ var 2 ⊖ var 1 ⊗ var 2) refl

pub lt_cancel : (u w k : ℤ) → pos 0 <ℤ k → (u *ℤ k) <ℤ (w *ℤ k) → u <ℤ w
lt_cancel u w k h j = elim (either w u) [ inl n ↦ absurd (omega (arith, ints, minus_mul u w k, nn_mul (u -ℤ w) k (omega (arith, ints)) (omega (arith, ints)))) | inr l ↦ l ]

pub le_cancel : (u w k : ℤ) → pos 0 <ℤ k → (u *ℤ k) ≤ℤ (w *ℤ k) → u ≤ℤ w
le_cancel u w k h j = elim (either u w) [ inl n ↦ n | inr l ↦ absurd (omega (arith, ints, minus_mul u w k, pos_mul (u -ℤ w) k (omega (arith, ints)) h)) ]

pub le_mul : (u w k : ℤ) → pos 0 <ℤ k → u ≤ℤ w → (u *ℤ k) ≤ℤ (w *ℤ k)
le_mul u w k h j = omega (arith, ints, minus_mul w u k, nn_mul (w -ℤ u) k (omega (arith, ints)) (omega (arith, ints)))

-- a number u whose multiple is a multiple w t has the sign of w, where t is not negative
pub mean_le : (d t u w : ℤ) → d *ℤ u ≡ w *ℤ t → pos 0 <ℤ d → pos 0 ≤ℤ w → pos 0 ≤ℤ t → pos 0 ≤ℤ u
mean_le d t u w e hd hw ht = elim (either (pos 0) u) [ inl n ↦ n | inr n ↦ absurd (omega (arith, ints, e, nn_mul w t hw ht, pos_mul_neg d u hd n)) ]

pub mean_ge : (d t u w : ℤ) → d *ℤ u ≡ w *ℤ t → pos 0 <ℤ d → w ≤ℤ pos 0 → pos 0 ≤ℤ t → u ≤ℤ pos 0
mean_ge d t u w e hd hw ht = elim (either u (pos 0)) [ inl n ↦ n | inr n ↦ absurd (omega (arith, ints, e, np_nn_mul w t hw ht, pos_mul d u hd n)) ]

-- a factor of 0
pub zero_factor : (m g : ℤ) → m *ℤ g ≡ pos 0 → pos 0 <ℤ m → g ≡ pos 0
zero_factor m g e hm = elim (ordered g (pos 0)) [ inl n ↦ absurd (omega (arith, ints, e, pos_mul_neg m g hm n)) | inr r ↦ elim r [ inl n ↦ n | inr n ↦ absurd (omega (arith, ints, e, pos_mul m g hm n)) ] ]
