-- Bounds of products, and the casts that the code's arithmetic leaves round a number. Stands on Ring and Signs; serves the answers of `orientation`.
use lib.IntN.{ℤ, pos, ◌+ℤ◌, ◌-ℤ◌, ◌*ℤ◌}
use lib.Signed.{◌<ℤ◌, ◌≤ℤ◌}
use mathlib.Core.Path.{◌≡◌, refl, ap, ◌∙◌}
use mathlib.Core.List.{[], ◌∷◌}
use native.Mathlib.Omega.{arith}
use Rattle.std.proofs.lemmas.Int.{ints, to_z-of_z}
use mir.Val.{SFits, to_z, of_z}
use mir.Syntax.{w64, w128}
use Rattle.grid_geom.specs.declared.orientation.TheConstants.{OFFSET, PRODUCT, TURN, RAT_OFFSET, RAT_PRODUCT}
use Rattle.grid_geom.specs.declared.TheConstants.{GRID, GREATEST_NUMERATOR, GREATEST_DENOMINATOR}
use Rattle.grid_geom.specs.Bounds.{IsWithin}
use Rattle.grid_geom.proofs.Ring.{var, num, ◌⊕◌, ◌⊖◌, ◌⊗◌, ring}
use Rattle.grid_geom.proofs.Signs.{nn_mul}

-- a product is within the product of the bounds
pub within_mul : (m n a b : ℤ) → IsWithin m a → IsWithin n b → IsWithin (m *ℤ n) (a *ℤ b)
within_mul m n a b ha hb = record {
  least = omega (arith, ints, low, nn_mul (m +ℤ a) (n +ℤ b) am bm, nn_mul (m -ℤ a) (n -ℤ b) ap bp);
  greatest = omega (arith, ints, high, nn_mul (m -ℤ a) (n +ℤ b) ap bm, nn_mul (m +ℤ a) (n -ℤ b) am bp);
}
  where
    am : pos 0 ≤ℤ (m +ℤ a)
    am = omega (arith, ints, ha.least)

    ap : pos 0 ≤ℤ (m -ℤ a)
    ap = omega (arith, ints, ha.greatest)

    bm : pos 0 ≤ℤ (n +ℤ b)
    bm = omega (arith, ints, hb.least)

    bp : pos 0 ≤ℤ (n -ℤ b)
    bp = omega (arith, ints, hb.greatest)

    low : (m +ℤ a) *ℤ (n +ℤ b) +ℤ (m -ℤ a) *ℤ (n -ℤ b) ≡ pos 2 *ℤ (m *ℤ n) +ℤ pos 2 *ℤ (a *ℤ b)
    low = ring (m ∷ n ∷ a ∷ b ∷ []) ((var 0 ⊕ var 2) ⊗ (var 1 ⊕ var 3) ⊕ (var 0 ⊖ var 2) ⊗ (var 1 ⊖ var 3)) (num (pos 2) ⊗ (var 0 ⊗ var 1) ⊕ num (pos 2) ⊗ (var 2 ⊗ var 3)) refl

    high : (m -ℤ a) *ℤ (n +ℤ b) +ℤ (m +ℤ a) *ℤ (n -ℤ b) ≡ pos 2 *ℤ (m *ℤ n) -ℤ pos 2 *ℤ (a *ℤ b)
    high = ring (m ∷ n ∷ a ∷ b ∷ []) ((var 0 ⊖ var 2) ⊗ (var 1 ⊕ var 3) ⊕ (var 0 ⊕ var 2) ⊗ (var 1 ⊖ var 3)) (num (pos 2) ⊗ (var 0 ⊗ var 1) ⊖ num (pos 2) ⊗ (var 2 ⊗ var 3)) refl

-- a coordinate is within the bound of offsets
pub wider : (z : ℤ) → IsWithin GRID z → IsWithin OFFSET z
wider z h = record { least = omega (arith, ints); greatest = omega (arith, ints) }

-- a product of two offsets fits 64 bits
pub fits_product : (a b : ℤ) → IsWithin OFFSET a → IsWithin OFFSET b → SFits w64 (a *ℤ b)
fits_product a b ha hb = let h : IsWithin PRODUCT (a *ℤ b) = within_mul OFFSET OFFSET a b ha hb in omega (arith, ints)

-- the code's product of two offsets is their product
pub back_product : (a b : ℤ) → SFits w64 a → SFits w64 b → IsWithin OFFSET a → IsWithin OFFSET b → to_z w64 (of_z w64 (to_z w64 (of_z w64 a) *ℤ to_z w64 (of_z w64 b))) ≡ a *ℤ b
back_product a b fa fb ha hb = let f : SFits w64 (a *ℤ b) = fits_product a b ha hb in simp to_z-of_z

-- the code's difference of two products is their difference
pub minus_back : (p q r s : ℤ) → IsWithin PRODUCT p → IsWithin PRODUCT q → p ≡ r → q ≡ s → to_z w64 (of_z w64 (to_z w64 (of_z w64 p) -ℤ to_z w64 (of_z w64 q))) ≡ r -ℤ s
minus_back p q r s hp hq e f = omega (arith, ints)

-- and is within twice their bound
pub minus_within : (p q : ℤ) → IsWithin PRODUCT p → IsWithin PRODUCT q → IsWithin TURN (to_z w64 (of_z w64 (to_z w64 (of_z w64 p) -ℤ to_z w64 (of_z w64 q))))
minus_within p q hp hq = let e : to_z w64 (of_z w64 (to_z w64 (of_z w64 p) -ℤ to_z w64 (of_z w64 q))) ≡ p -ℤ q = minus_back p q p q hp hq refl refl in rw e (small (p -ℤ q) refl)
  where
    small : (d : ℤ) → d ≡ p -ℤ q → IsWithin TURN d
    small d e = record { least = omega (arith, ints); greatest = omega (arith, ints) }

-- what a product of two offsets says, with the casts gone
pub product_of : (p o n u w : ℤ) → p ≡ to_z w64 (of_z w64 o) *ℤ to_z w64 (of_z w64 n) → IsWithin OFFSET o → IsWithin OFFSET n → o ≡ u → n ≡ w → p ≡ u *ℤ w
product_of p o n u w e ho hn i j = let fo : SFits w64 o = omega (arith, ints) in let fn : SFits w64 n = omega (arith, ints) in simp to_z-of_z at e ∙ ap (λ (z : ℤ). z *ℤ n) i ∙ ap (λ (z : ℤ). u *ℤ z) j

-- ---- the same for a rational point, in 128 bits
-- a coordinate times the denominator
scaled_within : (f k : ℤ) → IsWithin GRID f → pos 0 <ℤ k → k ≤ℤ GREATEST_DENOMINATOR → IsWithin (GRID *ℤ GREATEST_DENOMINATOR) (f *ℤ k)
scaled_within f k hf hk hs = within_mul GRID GREATEST_DENOMINATOR f k hf (record { least = omega (arith, ints); greatest = hs })

-- k times a difference of coordinates
pub rat_offset_within : (z f k : ℤ) → IsWithin GRID f → IsWithin GREATEST_NUMERATOR z → pos 0 <ℤ k → k ≤ℤ GREATEST_DENOMINATOR → IsWithin RAT_OFFSET (z -ℤ f *ℤ k)
rat_offset_within z f k hf hz hk hs = added (f *ℤ k) (scaled_within f k hf hk hs)
  where
    added : (m : ℤ) → IsWithin (GRID *ℤ GREATEST_DENOMINATOR) m → IsWithin RAT_OFFSET (z -ℤ m)
    added m h = record { least = omega (arith, ints); greatest = omega (arith, ints) }

pub rat_offset_fits : (d : ℤ) → IsWithin RAT_OFFSET d → SFits w128 d
rat_offset_fits d h = omega (arith, ints)

-- the code's difference, with and without the last cast
pub rat_offset_inner : (z f k : ℤ) → SFits w64 f → IsWithin GRID f → IsWithin GREATEST_NUMERATOR z → pos 0 <ℤ k → k ≤ℤ GREATEST_DENOMINATOR →
    to_z w128 (of_z w128 z) -ℤ to_z w128 (of_z w128 (to_z w128 (of_z w128 (to_z w64 (of_z w64 f))) *ℤ to_z w128 (of_z w128 k))) ≡ z -ℤ f *ℤ k
rat_offset_inner z f k ff hf hz hk hs = let fz : SFits w128 z = omega (arith, ints) in let fk : SFits w128 k = omega (arith, ints) in let fw : SFits w128 f = omega (arith, ints) in let fm : SFits w128 (f *ℤ k) = fits (f *ℤ k) (scaled_within f k hf hk hs) in simp to_z-of_z
  where
    fits : (m : ℤ) → IsWithin (GRID *ℤ GREATEST_DENOMINATOR) m → SFits w128 m
    fits m h = omega (arith, ints)

pub rat_offset_is : (z f k : ℤ) → SFits w64 f → IsWithin GRID f → IsWithin GREATEST_NUMERATOR z → pos 0 <ℤ k → k ≤ℤ GREATEST_DENOMINATOR →
    to_z w128 (of_z w128 (to_z w128 (of_z w128 z) -ℤ to_z w128 (of_z w128 (to_z w128 (of_z w128 (to_z w64 (of_z w64 f))) *ℤ to_z w128 (of_z w128 k))))) ≡ z -ℤ f *ℤ k
rat_offset_is z f k ff hf hz hk hs = let fd : SFits w128 (z -ℤ f *ℤ k) = rat_offset_fits (z -ℤ f *ℤ k) (rat_offset_within z f k hf hz hk hs) in ap (λ (m : ℤ). to_z w128 (of_z w128 m)) (rat_offset_inner z f k ff hf hz hk hs) ∙ simp to_z-of_z

-- what it says, with the casts gone
pub rat_offset_of : (r z f k : ℤ) → r ≡ to_z w128 (of_z w128 z) -ℤ to_z w64 (of_z w64 f) *ℤ to_z w128 (of_z w128 k) → IsWithin GRID f → IsWithin GREATEST_NUMERATOR z → pos 0 <ℤ k → k ≤ℤ GREATEST_DENOMINATOR → r ≡ z -ℤ f *ℤ k
rat_offset_of r z f k e hf hz hk hs = let fz : SFits w128 z = omega (arith, ints) in let fk : SFits w128 k = omega (arith, ints) in let ff : SFits w64 f = omega (arith, ints) in simp to_z-of_z at e

-- the code's product of a difference and a k-fold difference
pub rat_product_is : (a b : ℤ) → SFits w64 a → IsWithin OFFSET a → IsWithin RAT_OFFSET b → to_z w128 (of_z w128 (to_z w128 (of_z w128 (to_z w64 (of_z w64 a))) *ℤ to_z w128 (of_z w128 b))) ≡ a *ℤ b
rat_product_is a b fa ha hb = let fw : SFits w128 a = omega (arith, ints) in let fb : SFits w128 b = omega (arith, ints) in let fm : SFits w128 (a *ℤ b) = fits (a *ℤ b) (within_mul OFFSET RAT_OFFSET a b ha hb) in simp to_z-of_z
  where
    fits : (m : ℤ) → IsWithin RAT_PRODUCT m → SFits w128 m
    fits m h = omega (arith, ints)

-- what a product says, with the casts gone
pub rat_product_of : (p o n u w : ℤ) → p ≡ to_z w64 (of_z w64 o) *ℤ to_z w128 (of_z w128 n) → IsWithin OFFSET o → IsWithin RAT_OFFSET n → o ≡ u → n ≡ w → p ≡ u *ℤ w
rat_product_of p o n u w e ho hn i j = let fo : SFits w64 o = omega (arith, ints) in let fn : SFits w128 n = omega (arith, ints) in simp to_z-of_z at e ∙ ap (λ (z : ℤ). z *ℤ n) i ∙ ap (λ (z : ℤ). u *ℤ z) j

-- the code's difference of two such products
pub rat_minus_back : (p q r s : ℤ) → IsWithin RAT_PRODUCT p → IsWithin RAT_PRODUCT q → p ≡ r → q ≡ s → to_z w128 (of_z w128 (to_z w128 (of_z w128 p) -ℤ to_z w128 (of_z w128 q))) ≡ r -ℤ s
rat_minus_back p q r s hp hq e f = omega (arith, ints)
