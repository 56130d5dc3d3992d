-- The order of the risers that pass a strip is the same at all its heights, and that of their keys.
use lib.IntN.{ℤ, pos, ◌+ℤ◌, ◌-ℤ◌, ◌*ℤ◌}
use lib.Signed.{◌<ℤ◌, ◌≤ℤ◌}
use mathlib.Core.Path.{◌≡◌, refl, sym, ap, ◌∙◌, subst}
use mathlib.Core.List.{[], ◌∷◌}
use mathlib.Core.Logic.{◌⊎◌, inl, inr}
use native.Mathlib.Omega.{arith}
use Prim.Native.Nat.{ℕ, ◌+◌, ◌*◌, ◌/◌, ◌<◌, ◌≤◌}
use Rattle.std.proofs.lemmas.Int.{ints}
use Rattle.std.proofs.Math.Nat.{div-mul-le_self, lt-div-mul-add, mul-le-mul_right, mul-lt-mul_of_pos_right, mul-le-mul}
use Rattle.grid_geom.specs.declared.RatPoint.{RatPoint}
use Rattle.grid_geom.specs.Plane.{orient_rat}
use Rattle.grid_geom.proofs.Ring.{var, num, ◌⊕◌, ◌⊖◌, ◌⊗◌, ring}
use Rattle.grid_geom.proofs.Signs.{pos_mul, le_mul, ordered}
use Rattle.grid_geom.proofs.Strips.{IsSpanned, swap_crosses}
use Rattle.grid_geom.specs.Segment.{IsInnerTo}
use Rattle.geom_check.specs.declared.risers.Riser.{Riser}
use Rattle.geom_check.specs.RiserOrder.{over, under, IsAt, IsAcross, IsFree, IsWest, IsInStrip, IsPassing, IsKey}
use Rattle.geom_check.specs.Gaps.{middle}
use Rattle.geom_check.proofs.RiserPlace.{tall, middle_at, middle_k, middle_left, middle_right, beside_first, beside_second}
use Rattle.geom_check.specs.declared.limits.TheConstants.{MOST_UNDER, PARTS}

pub across : (low high : ℤ) (r : Riser) → low <ℤ high → IsPassing low high r → IsAcross (low +ℤ high) r
across low high r h p = record { below = omega (arith, ints, p.from_low, p.to_high); above = omega (arith, ints, p.from_low, p.to_high) }

pub spanned : (low high : ℤ) (q : RatPoint) (r : Riser) → IsInStrip low high q → IsPassing low high r → IsSpanned q r.a r.b
spanned low high q r s p = record {
  rational = s.rational;
  low = joined (r.a.y *ℤ q.k) (low *ℤ q.k) q.y (le_mul r.a.y low q.k s.rational p.from_low) s.from_low;
  high = joined_below q.y (high *ℤ q.k) (r.b.y *ℤ q.k) s.below_high (le_mul high r.b.y q.k s.rational p.to_high);
}
  where
    joined : (m n o : ℤ) → m ≤ℤ n → n ≤ℤ o → m ≤ℤ o
    joined m n o h j = omega (arith, ints)

    joined_below : (m n o : ℤ) → m <ℤ n → n ≤ℤ o → m <ℤ o
    joined_below m n o h j = omega (arith, ints)

pub middle_in_strip : (low high : ℤ) (r s : Riser) → low <ℤ high → IsPassing low high r → IsPassing low high s → IsInStrip low high (middle (low +ℤ high) r s)
middle_in_strip low high r s h p o = record {
  rational = middle_k (low +ℤ high) r s (across low high r h p) (across low high s h o);
  from_low = at_least (low *ℤ (pos 2 *ℤ (under r *ℤ under s))) ((low +ℤ high) *ℤ (under r *ℤ under s)) ((high -ℤ low) *ℤ (under r *ℤ under s))
      (ring (low ∷ high ∷ under r ∷ under s ∷ []) ((var 0 ⊕ var 1) ⊗ (var 2 ⊗ var 3)) (var 0 ⊗ (num (pos 2) ⊗ (var 2 ⊗ var 3)) ⊕ (var 1 ⊖ var 0) ⊗ (var 2 ⊗ var 3)) refl) wide;
  below_high = below ((low +ℤ high) *ℤ (under r *ℤ under s)) (high *ℤ (pos 2 *ℤ (under r *ℤ under s))) ((high -ℤ low) *ℤ (under r *ℤ under s))
      (ring (low ∷ high ∷ under r ∷ under s ∷ []) (var 1 ⊗ (num (pos 2) ⊗ (var 2 ⊗ var 3))) ((var 0 ⊕ var 1) ⊗ (var 2 ⊗ var 3) ⊕ (var 1 ⊖ var 0) ⊗ (var 2 ⊗ var 3)) refl) wide;
}
  where
    wide : pos 0 <ℤ ((high -ℤ low) *ℤ (under r *ℤ under s))
    wide = pos_mul (high -ℤ low) (under r *ℤ under s) (omega (arith, ints)) (pos_mul (under r) (under s) (tall (low +ℤ high) r (across low high r h p)) (tall (low +ℤ high) s (across low high s h o)))

    at_least : (m n d : ℤ) → n ≡ m +ℤ d → pos 0 <ℤ d → m ≤ℤ n
    at_least m n d e h = omega (arith, ints)

    below : (m n d : ℤ) → n ≡ m +ℤ d → pos 0 <ℤ d → m <ℤ n
    below m n d e h = omega (arith, ints)

-- a place left of the western of two risers isn't right of the eastern one
pub ordered_sides : (low high : ℤ) (q : RatPoint) (r s : Riser) → low <ℤ high → IsInStrip low high q → IsPassing low high r → IsPassing low high s → IsFree r s → IsWest (low +ℤ high) r s →
    pos 0 <ℤ orient_rat r.a r.b q → orient_rat s.a s.b q <ℤ pos 0 → ⊥
ordered_sides low high q r s h i p o f w left right = f.crossing (swap_crosses q (middle (low +ℤ high) r s) r.a r.b s.a s.b
    (record { first = spanned low high q r i p; second = spanned low high q s i o; left = left; right = right })
    (record {
      first = spanned low high (middle (low +ℤ high) r s) s (middle_in_strip low high r s h p o) o;
      second = spanned low high (middle (low +ℤ high) r s) r (middle_in_strip low high r s h p o) p;
      left = middle_left (low +ℤ high) r s (across low high s h o) w;
      right = middle_right (low +ℤ high) r s (across low high r h p) w;
    }))

-- a place of a riser's line between its ends is inner to it
pub inner_at : (y : ℤ) (r : Riser) (q : RatPoint) → pos 0 <ℤ q.k → IsAt y q → IsAcross y r → orient_rat r.a r.b q ≡ pos 0 → IsInnerTo q r.a r.b
inner_at y r q k e h z = record {
  on = record {
    of_p = r.b.y *ℤ q.k -ℤ q.y;
    of_q = q.y -ℤ r.a.y *ℤ q.k;
    p_weight = weak (r.b.y *ℤ q.k -ℤ q.y) first;
    q_weight = weak (q.y -ℤ r.a.y *ℤ q.k) second;
    weighted = both (r.b.y *ℤ q.k -ℤ q.y) (q.y -ℤ r.a.y *ℤ q.k) first second;
    mean_x = sym (ring (r.a.x ∷ r.a.y ∷ r.b.x ∷ r.b.y ∷ q.x ∷ q.y ∷ q.k ∷ [])
        (var 6 ⊗ ((var 3 ⊗ var 6 ⊖ var 5) ⊗ var 0 ⊕ (var 5 ⊖ var 1 ⊗ var 6) ⊗ var 2))
        (var 4 ⊗ ((var 3 ⊗ var 6 ⊖ var 5) ⊗ num (pos 1) ⊕ (var 5 ⊖ var 1 ⊗ var 6) ⊗ num (pos 1)) ⊕ var 6 ⊗ ((var 2 ⊖ var 0) ⊗ (var 5 ⊖ var 1 ⊗ var 6) ⊖ (var 3 ⊖ var 1) ⊗ (var 4 ⊖ var 0 ⊗ var 6))) refl
        ∙ ap (λ (n : ℤ). q.x *ℤ ((r.b.y *ℤ q.k -ℤ q.y) *ℤ pos 1 +ℤ (q.y -ℤ r.a.y *ℤ q.k) *ℤ pos 1) +ℤ q.k *ℤ n) z
        ∙ nothing (q.x *ℤ ((r.b.y *ℤ q.k -ℤ q.y) *ℤ pos 1 +ℤ (q.y -ℤ r.a.y *ℤ q.k) *ℤ pos 1)) q.k);
    mean_y = ring (r.a.y ∷ r.b.y ∷ q.y ∷ q.k ∷ []) (var 2 ⊗ ((var 1 ⊗ var 3 ⊖ var 2) ⊗ num (pos 1) ⊕ (var 2 ⊖ var 0 ⊗ var 3) ⊗ num (pos 1))) (var 3 ⊗ ((var 1 ⊗ var 3 ⊖ var 2) ⊗ var 0 ⊕ (var 2 ⊖ var 0 ⊗ var 3) ⊗ var 1)) refl;
  };
  of_a = first;
  of_b = second;
}
  where
    nothing : (m k : ℤ) → m +ℤ k *ℤ pos 0 ≡ m
    nothing m k = ring (m ∷ k ∷ []) (var 0 ⊕ var 1 ⊗ num (pos 0)) (var 0) refl

    weak : (m : ℤ) → pos 0 <ℤ m → pos 0 ≤ℤ m
    weak m h = omega (arith, ints)

    both : (m n : ℤ) → pos 0 <ℤ m → pos 0 <ℤ n → pos 0 <ℤ (m +ℤ n)
    both m n h j = omega (arith, ints)

    half : (m n : ℤ) → pos 0 <ℤ n → n ≡ pos 2 *ℤ m → pos 0 <ℤ m
    half m n h e = omega (arith, ints)

    first : pos 0 <ℤ (r.b.y *ℤ q.k -ℤ q.y)
    first = half (r.b.y *ℤ q.k -ℤ q.y) ((pos 2 *ℤ r.b.y -ℤ y) *ℤ q.k) (pos_mul (pos 2 *ℤ r.b.y -ℤ y) q.k (omega (arith, ints, h.above)) k)
        (ring (r.b.y ∷ y ∷ q.k ∷ []) ((num (pos 2) ⊗ var 0 ⊖ var 1) ⊗ var 2) (num (pos 2) ⊗ (var 0 ⊗ var 2) ⊖ var 1 ⊗ var 2) refl ∙ ap (λ (n : ℤ). pos 2 *ℤ (r.b.y *ℤ q.k) -ℤ n) (sym e)
        ∙ ring (r.b.y ∷ q.y ∷ q.k ∷ []) (num (pos 2) ⊗ (var 0 ⊗ var 2) ⊖ num (pos 2) ⊗ var 1) (num (pos 2) ⊗ (var 0 ⊗ var 2 ⊖ var 1)) refl)

    second : pos 0 <ℤ (q.y -ℤ r.a.y *ℤ q.k)
    second = half (q.y -ℤ r.a.y *ℤ q.k) ((y -ℤ pos 2 *ℤ r.a.y) *ℤ q.k) (pos_mul (y -ℤ pos 2 *ℤ r.a.y) q.k (omega (arith, ints, h.below)) k)
        (ring (r.a.y ∷ y ∷ q.k ∷ []) ((var 1 ⊖ num (pos 2) ⊗ var 0) ⊗ var 2) (var 1 ⊗ var 2 ⊖ num (pos 2) ⊗ (var 0 ⊗ var 2)) refl ∙ ap (λ (n : ℤ). n -ℤ pos 2 *ℤ (r.a.y *ℤ q.k)) (sym e)
        ∙ ring (r.a.y ∷ q.y ∷ q.k ∷ []) (num (pos 2) ⊗ var 1 ⊖ num (pos 2) ⊗ (var 0 ⊗ var 2)) (num (pos 2) ⊗ (var 1 ⊖ var 0 ⊗ var 2)) refl)

-- two risers without a common inner point cross a height at two places
pub west_or_east : (y : ℤ) (r s : Riser) → IsAcross y r → IsAcross y s → IsFree r s → IsWest y r s ⊎ IsWest y s r
west_or_east y r s h j f = elim (ordered (over y r *ℤ under s) (over y s *ℤ under r)) [
  | inl w ↦ inl w
  | inr o ↦ elim o [
    | inr w ↦ inr w
    | inl e ↦ absurd (f.inner (middle y r s) (middle_k y r s h j)
        (inner_at y r (middle y r s) (middle_k y r s h j) (middle_at y r s) h (level_first _ (under r) (over y s *ℤ under r) (over y r *ℤ under s) (beside_first y r s) e))
        (inner_at y s (middle y r s) (middle_k y r s h j) (middle_at y r s) j (level_second _ (under s) (over y s *ℤ under r) (over y r *ℤ under s) (beside_second y r s) e)))
  ]
]
  where
    none : (m d n : ℤ) → pos 2 *ℤ m ≡ n → n ≡ pos 0 → m ≡ pos 0
    none m d n e f = omega (arith, ints)

    flat : (t m n : ℤ) → n ≡ m → t *ℤ (m -ℤ n) ≡ pos 0
    flat t m n e = ap (λ (z : ℤ). t *ℤ (m -ℤ z)) e ∙ ring (t ∷ m ∷ []) (var 0 ⊗ (var 1 ⊖ var 1)) (num (pos 0)) refl

    level_first : (o t m n : ℤ) → pos 2 *ℤ o ≡ pos 0 -ℤ t *ℤ (m -ℤ n) → n ≡ m → o ≡ pos 0
    level_first o t m n e f = none o t (pos 0 -ℤ t *ℤ (m -ℤ n)) e (ap (λ (z : ℤ). pos 0 -ℤ z) (flat t m n f))

    level_second : (o t m n : ℤ) → pos 2 *ℤ o ≡ t *ℤ (m -ℤ n) → n ≡ m → o ≡ pos 0
    level_second o t m n e f = none o t (t *ℤ (m -ℤ n)) e (flat t m n f)

key_order : (m n p q k l : ℕ) → 0 < n → 0 < q → n ≤ MOST_UNDER → q ≤ MOST_UNDER → k ≡ m * PARTS / n → l ≡ p * PARTS / q → k ≤ l → p * n < m * q → ⊥
key_order m n p q k l hn hq sn sq ek el h w =
    let a : m * PARTS < k * n + n = subst (λ (z : ℕ). m * PARTS < z * n + n) (sym ek) (lt-div-mul-add {a = m * PARTS} {b = n} hn) in
    let b : l * q ≤ p * PARTS = subst (λ (z : ℕ). z * q ≤ p * PARTS) (sym el) (div-mul-le_self (p * PARTS) q) in
    let c : m * PARTS * q < (k * n + n) * q = mul-lt-mul_of_pos_right a hq in
    let d : l * q * n ≤ p * PARTS * n = mul-le-mul_right n b in
    let e : k * n * q ≤ l * n * q = mul-le-mul_right q (mul-le-mul_right n h) in
    let f : n * q ≤ MOST_UNDER * MOST_UNDER = mul-le-mul sn sq in
    omega (arith, c, d, e, f, w)

-- keys that don't fall don't belong to places that do
pub keys_ordered : (y : ℤ) (r s : Riser) (k l : ℕ) → IsKey y r k → IsKey y s l → k ≤ l → ¬ (IsWest y s r)
keys_ordered y r s k l a b h w = key_order a.over_is a.under_is b.over_is b.under_is k l a.positive b.positive a.small b.small a.key_is b.key_is h (down (b.over_is * a.under_is) (a.over_is * b.under_is)
    (subst (λ (z : ℤ). (pos b.over_is *ℤ pos a.under_is) <ℤ (z *ℤ pos b.under_is)) (sym a.same_over)
    (subst (λ (z : ℤ). (pos b.over_is *ℤ pos a.under_is) <ℤ (over y r *ℤ z)) (sym b.same_under)
    (subst (λ (z : ℤ). (z *ℤ pos a.under_is) <ℤ (over y r *ℤ under s)) (sym b.same_over)
    (subst (λ (z : ℤ). (over y s *ℤ z) <ℤ (over y r *ℤ under s)) (sym a.same_under) w)))))
  where
    down : (m n : ℕ) → pos m <ℤ pos n → m < n
    down m n h = omega (arith, ints)
