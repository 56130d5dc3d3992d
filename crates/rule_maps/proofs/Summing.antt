-- What the code of `sums` computes: products and sums of a rule's numbers, within their bounds. Stands on Numbers and Frames.
use Prim.Native.Nat.{ℕ, ◌+◌, ◌≤◌}
use lib.IntN.{ℤ, pos, negsuc, ◌+ℤ◌, ◌-ℤ◌, ◌*ℤ◌}
use lib.Signed.{◌≤ℤ◌}
use mathlib.Core.Bool.{Bool, true, false}
use mathlib.Core.Path.{◌≡◌, sym, ap, ◌∙◌, subst}
use native.Mathlib.Omega.{arith}
use Rattle.std.specs.Int.RustNames.{unsigned_abs}
use Rattle.std.proofs.lemmas.Int.{ints, to_z-of_z}
use mir.Val.{SFits, to_z, of_z}
use mir.Syntax.{w32, w64, w128}
use Rattle.grid_geom.specs.Bounds.{IsWithin}
use Rattle.grid_geom.proofs.Within.{within_mul}
use Rattle.rule_maps.specs.declared.frame.TheConstants.{TURN, UNIT}
use Rattle.rule_maps.specs.declared.sums.TheConstants.{NUMBER, REST, CONSTANT, WEIGHTED, MOVING, NUMERATOR}
use Rattle.rule_maps.specs.Places.{either}
use Rattle.rule_maps.proofs.Numbers.{within_add, fits64, fits128}
use Rattle.rule_maps.proofs.Frames.{cast64, cast128}

pub number_within : (z : ℤ) → unsigned_abs z ≤ 160000 → IsWithin NUMBER z
number_within (pos n) h = record { least = omega (arith, ints, h); greatest = omega (arith, ints, h) }
number_within (negsuc n) h = record { least = omega (arith, ints, h); greatest = omega (arith, ints, h) }

pub either_within : (m : ℤ) (of_y : Bool) (x y : ℤ) → IsWithin m x → IsWithin m y → IsWithin m (either of_y x y)
either_within m false x y hx hy = hx
either_within m true x y hx hy = hy

abbrev pub cast32 : ℤ → ℤ
cast32 z = to_z w32 (of_z w32 z)

number_fits32 : (z : ℤ) → IsWithin NUMBER z → SFits w32 z
number_fits32 z h = omega (arith, ints, h.least, h.greatest)

-- ---- what doesn't depend on the mapped points
pub rested_within : (a b : ℤ) → IsWithin NUMBER a → IsWithin NUMBER b → IsWithin REST (cast64 (cast64 (cast32 a) *ℤ cast64 (cast32 b)))
rested_within a b ha hb = let f : SFits w32 a = number_fits32 a ha in let g : SFits w32 b = number_fits32 b hb in let h : SFits w64 a = fits64 NUMBER a (omega (arith, ints)) ha in let k : SFits w64 b = fits64 NUMBER b (omega (arith, ints)) hb in
    let p : SFits w64 (a *ℤ b) = fits64 REST (a *ℤ b) (omega (arith, ints)) (within_mul NUMBER NUMBER a b ha hb) in simp to_z-of_z (within_mul NUMBER NUMBER a b ha hb)

-- the code's sum of the shares so far and one more
pub rested_more : (s t : ℤ) (i : ℕ) → i ≤ 32 → IsWithin (pos i *ℤ REST) s → IsWithin REST t → cast64 (s +ℤ cast64 t) ≡ s +ℤ t
rested_more s t i h hs ht = let f : SFits w64 t = fits64 REST t (omega (arith, ints)) ht in let g : SFits w64 (s +ℤ t) = omega (arith, ints, h, hs.least, hs.greatest, ht.least, ht.greatest) in simp to_z-of_z

pub rested_small : (s t : ℤ) (i : ℕ) → IsWithin (pos i *ℤ REST) s → IsWithin REST t → IsWithin (pos (i + 1) *ℤ REST) (s +ℤ t)
rested_small s t i hs ht = record { least = omega (arith, ints, hs.least, ht.least); greatest = omega (arith, ints, hs.greatest, ht.greatest) }

pub constant_within : (x r : ℤ) → IsWithin NUMBER x → IsWithin (pos 32 *ℤ REST) r → IsWithin CONSTANT (pos 10000 *ℤ x -ℤ r)
constant_within x r hx hr = record { least = omega (arith, ints, hx.least, hr.greatest); greatest = omega (arith, ints, hx.greatest, hr.least) }

pub constant_back : (x r : ℤ) → IsWithin NUMBER x → IsWithin (pos 32 *ℤ REST) r → cast64 (cast64 (pos 10000 *ℤ cast64 (cast32 x)) -ℤ cast64 r) ≡ pos 10000 *ℤ x -ℤ r
constant_back x r hx hr = let f : SFits w32 x = number_fits32 x hx in let g : SFits w64 x = fits64 NUMBER x (omega (arith, ints)) hx in let h : SFits w64 (pos 10000 *ℤ x) = omega (arith, ints, hx.least, hx.greatest) in
    let k : SFits w64 r = fits64 (pos 32 *ℤ REST) r (omega (arith, ints)) hr in let l : SFits w64 (pos 10000 *ℤ x -ℤ r) = fits64 CONSTANT (pos 10000 *ℤ x -ℤ r) (omega (arith, ints)) (constant_within x r hx hr) in simp to_z-of_z

-- ---- what does
pub weighted_within : (a b : ℤ) → IsWithin NUMBER a → IsWithin TURN b → IsWithin WEIGHTED (a *ℤ b)
weighted_within a b ha hb = within_mul NUMBER TURN a b ha hb

pub weighted_back : (a b y : ℤ) → b ≡ y → IsWithin NUMBER a → IsWithin TURN y → cast128 (cast128 (cast32 a) *ℤ cast128 (cast64 b)) ≡ a *ℤ y
weighted_back a b y e ha hy = subst (λ (z : ℤ). cast128 (cast128 (cast32 a) *ℤ cast128 (cast64 z)) ≡ a *ℤ y) (sym e)
    (let f : SFits w32 a = number_fits32 a ha in let g : SFits w128 a = fits128 NUMBER a (omega (arith, ints)) ha in let h : SFits w64 y = fits64 TURN y (omega (arith, ints)) hy in let k : SFits w128 y = fits128 TURN y (omega (arith, ints)) hy in
    let l : SFits w128 (a *ℤ y) = fits128 WEIGHTED (a *ℤ y) (omega (arith, ints)) (weighted_within a y ha hy) in simp to_z-of_z)

pub weighted_more : (s t : ℤ) (i : ℕ) → i ≤ 32 → IsWithin (pos i *ℤ WEIGHTED) s → IsWithin WEIGHTED t → cast128 (s +ℤ cast128 t) ≡ s +ℤ t
weighted_more s t i h hs ht = let f : SFits w128 t = fits128 WEIGHTED t (omega (arith, ints)) ht in let g : SFits w128 (s +ℤ t) = omega (arith, ints, h, hs.least, hs.greatest, ht.least, ht.greatest) in simp to_z-of_z

pub weighted_small : (s t : ℤ) (i : ℕ) → IsWithin (pos i *ℤ WEIGHTED) s → IsWithin WEIGHTED t → IsWithin (pos (i + 1) *ℤ WEIGHTED) (s +ℤ t)
weighted_small s t i hs ht = record { least = omega (arith, ints, hs.least, ht.least); greatest = omega (arith, ints, hs.greatest, ht.greatest) }

-- ---- a row's numerator
scaled_within : (a q : ℤ) → IsWithin CONSTANT a → pos 1 ≤ℤ q → q ≤ℤ UNIT → IsWithin (CONSTANT *ℤ UNIT) (a *ℤ q)
scaled_within a q ha hq hu = within_mul CONSTANT UNIT a q ha (record { least = omega (arith, ints, hq); greatest = hu })

moved_within : (m : ℤ) → IsWithin MOVING m → IsWithin (pos 10000 *ℤ MOVING) (pos 10000 *ℤ m)
moved_within m h = record { least = omega (arith, ints, h.least); greatest = omega (arith, ints, h.greatest) }

pub numerator_within : (a q m : ℤ) → IsWithin CONSTANT a → pos 1 ≤ℤ q → q ≤ℤ UNIT → IsWithin MOVING m → IsWithin NUMERATOR (a *ℤ q +ℤ pos 10000 *ℤ m)
numerator_within a q m ha hq hu hm = within_add (CONSTANT *ℤ UNIT) (pos 10000 *ℤ MOVING) (a *ℤ q) (pos 10000 *ℤ m) (scaled_within a q ha hq hu) (moved_within m hm)

pub scaled_inner : (a q : ℤ) → IsWithin CONSTANT a → pos 1 ≤ℤ q → q ≤ℤ UNIT → cast128 (cast64 a) *ℤ cast128 q ≡ a *ℤ q
scaled_inner a q ha hq hu = let f : SFits w64 a = fits64 CONSTANT a (omega (arith, ints)) ha in let g : SFits w128 a = fits128 CONSTANT a (omega (arith, ints)) ha in let h : SFits w128 q = omega (arith, ints, hq, hu) in simp to_z-of_z

pub moved_inner : (m : ℤ) → IsWithin MOVING m → pos 10000 *ℤ cast128 m ≡ pos 10000 *ℤ m
moved_inner m h = let f : SFits w128 m = fits128 MOVING m (omega (arith, ints)) h in simp to_z-of_z

pub scaled_fits : (a q : ℤ) → IsWithin CONSTANT a → pos 1 ≤ℤ q → q ≤ℤ UNIT → SFits w128 (cast128 (cast64 a) *ℤ cast128 q)
scaled_fits a q ha hq hu = rw (scaled_inner a q ha hq hu) (fits128 (CONSTANT *ℤ UNIT) (a *ℤ q) (omega (arith, ints)) (scaled_within a q ha hq hu))

pub moved_fits : (m : ℤ) → IsWithin MOVING m → SFits w128 (pos 10000 *ℤ cast128 m)
moved_fits m h = rw (moved_inner m h) (fits128 (pos 10000 *ℤ MOVING) (pos 10000 *ℤ m) (omega (arith, ints)) (moved_within m h))

-- the code's sum before its last cast
pub numerator_inner : (a q m : ℤ) → IsWithin CONSTANT a → pos 1 ≤ℤ q → q ≤ℤ UNIT → IsWithin MOVING m → cast128 (cast128 (cast64 a) *ℤ cast128 q) +ℤ cast128 (pos 10000 *ℤ cast128 m) ≡ a *ℤ q +ℤ pos 10000 *ℤ m
numerator_inner a q m ha hq hu hm = rw (scaled_inner a q ha hq hu, moved_inner m hm)
    (let f : SFits w128 (a *ℤ q) = fits128 (CONSTANT *ℤ UNIT) (a *ℤ q) (omega (arith, ints)) (scaled_within a q ha hq hu) in let g : SFits w128 (pos 10000 *ℤ m) = fits128 (pos 10000 *ℤ MOVING) (pos 10000 *ℤ m) (omega (arith, ints)) (moved_within m hm) in simp to_z-of_z)

pub numerator_fits : (a q m : ℤ) → IsWithin CONSTANT a → pos 1 ≤ℤ q → q ≤ℤ UNIT → IsWithin MOVING m → SFits w128 (cast128 (cast128 (cast64 a) *ℤ cast128 q) +ℤ cast128 (pos 10000 *ℤ cast128 m))
numerator_fits a q m ha hq hu hm = rw (numerator_inner a q m ha hq hu hm) (fits128 NUMERATOR (a *ℤ q +ℤ pos 10000 *ℤ m) (omega (arith, ints)) (numerator_within a q m ha hq hu hm))

pub numerator_back : (a q m : ℤ) → IsWithin CONSTANT a → pos 1 ≤ℤ q → q ≤ℤ UNIT → IsWithin MOVING m → cast128 (cast128 (cast128 (cast64 a) *ℤ cast128 q) +ℤ cast128 (pos 10000 *ℤ cast128 m)) ≡ a *ℤ q +ℤ pos 10000 *ℤ m
numerator_back a q m ha hq hu hm = ap cast128 (numerator_inner a q m ha hq hu hm) ∙ (let f : SFits w128 (a *ℤ q +ℤ pos 10000 *ℤ m) = fits128 NUMERATOR (a *ℤ q +ℤ pos 10000 *ℤ m) (omega (arith, ints)) (numerator_within a q m ha hq hu hm) in simp to_z-of_z)

-- a term's share, from where its mapped point is seen
pub record IsWeighted (a : ℤ) (of_y : Bool) (d e z : ℤ) : Type 0 where
  pub value : z ≡ a *ℤ either of_y d e
  pub small : IsWithin WEIGHTED z

pub weighted_is : (a : ℤ) (of_y : Bool) {p u v d e : ℤ} → p ≡ either of_y u v → u ≡ d → v ≡ e → IsWithin NUMBER a → IsWithin TURN u → IsWithin TURN v → IsWeighted a of_y d e (cast128 (cast128 (cast32 a) *ℤ cast128 (cast64 p)))
weighted_is a of_y {p} {u} {v} {d} {e} h i j ha hu hv = record { value = back ∙ ap (λ (z : ℤ). a *ℤ z) same; small = rw back (weighted_within a (either of_y u v) ha (either_within TURN of_y u v hu hv)) }
  where
    back : cast128 (cast128 (cast32 a) *ℤ cast128 (cast64 p)) ≡ a *ℤ either of_y u v
    back = weighted_back a p (either of_y u v) h ha (either_within TURN of_y u v hu hv)

    same : either of_y u v ≡ either of_y d e
    same = ap (λ (z : ℤ). either of_y z v) i ∙ ap (λ (z : ℤ). either of_y d z) j

-- ---- both shapes mixed
abbrev pub mixed_weight : ℕ → ℤ
mixed_weight class = pos 2 *ℤ pos class -ℤ pos 2

abbrev pub code_weight : ℕ → ℤ
code_weight class = cast128 (mixed_weight class)

weight_is : (class : ℕ) → 1 ≤ class → class ≤ 16 → code_weight class ≡ mixed_weight class
weight_is class h j = let g : SFits w128 (pos 2 *ℤ pos class -ℤ pos 2) = omega (arith, ints, h, j) in simp to_z-of_z

pub record IsMixed (class : ℕ) (a l : ℤ) : Type 0 where
  pub product_fits : SFits w128 (code_weight class *ℤ cast128 l)
  pub fits : SFits w128 (cast128 a +ℤ cast128 (code_weight class *ℤ cast128 l))
  pub value : cast128 (cast128 a +ℤ cast128 (code_weight class *ℤ cast128 l)) ≡ a +ℤ mixed_weight class *ℤ l
  pub small : IsWithin (pos 31 *ℤ NUMERATOR) (cast128 (cast128 a +ℤ cast128 (code_weight class *ℤ cast128 l)))

pub mixed_is : (class : ℕ) (a l : ℤ) → 1 ≤ class → class ≤ 16 → IsWithin NUMERATOR a → IsWithin NUMERATOR l → IsMixed class a l
mixed_is class a l h j ha hl = record {
  product_fits = rw (weight_is class h j) (let f : SFits w128 l = fits128 NUMERATOR l (omega (arith, ints)) hl in simp to_z-of_z product);
  fits = rw inner sum;
  value = back;
  small = rw back wide;
}
  where
    weight : IsWithin (pos 30) (mixed_weight class)
    weight = record { least = omega (arith, ints, h); greatest = omega (arith, ints, j) }

    product : SFits w128 (mixed_weight class *ℤ l)
    product = fits128 (pos 30 *ℤ NUMERATOR) (mixed_weight class *ℤ l) (omega (arith, ints)) (within_mul (pos 30) NUMERATOR (mixed_weight class) l weight hl)

    wide : IsWithin (pos 31 *ℤ NUMERATOR) (a +ℤ mixed_weight class *ℤ l)
    wide = within_add NUMERATOR (pos 30 *ℤ NUMERATOR) a (mixed_weight class *ℤ l) ha (within_mul (pos 30) NUMERATOR (mixed_weight class) l weight hl)

    sum : SFits w128 (a +ℤ mixed_weight class *ℤ l)
    sum = fits128 (pos 31 *ℤ NUMERATOR) (a +ℤ mixed_weight class *ℤ l) (omega (arith, ints)) wide

    inner : cast128 a +ℤ cast128 (code_weight class *ℤ cast128 l) ≡ a +ℤ mixed_weight class *ℤ l
    inner = rw (weight_is class h j) (let f : SFits w128 l = fits128 NUMERATOR l (omega (arith, ints)) hl in let g : SFits w128 a = fits128 NUMERATOR a (omega (arith, ints)) ha in let k : SFits w128 (mixed_weight class *ℤ l) = product in simp to_z-of_z)

    back : cast128 (cast128 a +ℤ cast128 (code_weight class *ℤ cast128 l)) ≡ a +ℤ mixed_weight class *ℤ l
    back = ap cast128 inner ∙ (let f : SFits w128 (a +ℤ mixed_weight class *ℤ l) = sum in simp to_z-of_z)
