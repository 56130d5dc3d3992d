-- The middle of a gap is on no edge.
use Rattle.std.proofs.Common.{◌≡◌, ℕ, ◌<◌, List, [], ◌∷◌, length, slice_index_or, Any, ◌∙◌, refl, arith, ◌⊎◌, inl, inr}
use lib.IntN.{ℤ, pos, ◌+ℤ◌, ◌*ℤ◌}
use lib.Signed.{◌<ℤ◌, ◌≤ℤ◌}
use Rattle.std.proofs.lemmas.Int.{ints, clamps}
use Rattle.std.proofs.lemmas.List.{get_or_default}
use Rattle.std.proofs.lemmas.List.Elements.{recursion_from_All}
use Rattle.std.specs.Int.{int_max, int_min}
use Rattle.grid_geom.specs.declared.RatPoint.{RatPoint}
use Rattle.grid_geom.specs.declared.Edge.{Edge}
use Rattle.grid_geom.specs.Sides.{IsOnClosed}
use Rattle.grid_geom.specs.Closed.{IsOff}
use Rattle.grid_geom.proofs.Ring.{var, num, ◌⊕◌, ◌⊗◌, ring}
use Rattle.grid_geom.proofs.Signs.{either, le_mul, lt_cancel}
use Rattle.geom_check.specs.Strips.{IsHeight, IsStrip, Passes, IsCrossing, IsLeftOf, IsBetween, IsMiddleHeight, IsGapMiddle}
use Rattle.geom_check.specs.Strips.Passes.{upwards, downwards}
use Rattle.geom_check.proofs.RiserWinding.{steeper}

-- ---- an edge with a place of the middle height passes the strip
-- a height of an edge's end is not inside the strip
outside : (edges : List Edge) (low high h : ℤ) → IsStrip edges low high → IsHeight edges h → (h ≤ℤ low) ⊎ (high ≤ℤ h)
outside edges low high h s is = elim (either h low) [
  | inl n ↦ inl n
  | inr n ↦ elim (either high h) [ inl m ↦ inr m | inr m ↦ absurd (s.successive h is n m) ]
]

halves : (low high k y : ℤ) → pos 2 *ℤ y ≡ (low +ℤ high) *ℤ k → pos 2 *ℤ y ≡ low *ℤ k +ℤ high *ℤ k
halves low high k y e = e ∙ ring (low ∷ high ∷ k ∷ []) ((var 0 ⊕ var 1) ⊗ var 2) (var 0 ⊗ var 2 ⊕ var 1 ⊗ var 2) refl

not_below : (low high top k y : ℤ) → low <ℤ high → pos 0 <ℤ k → pos 2 *ℤ y ≡ (low +ℤ high) *ℤ k → top ≤ℤ low → y ≤ℤ (top *ℤ k) → ⊥
not_below low high top k y o h e t j = clash (low *ℤ k) (high *ℤ k) (top *ℤ k) y (steeper low high k o h) (halves low high k y e) (le_mul top low k h t) j
  where
    clash : (m n t y : ℤ) → m <ℤ n → pos 2 *ℤ y ≡ m +ℤ n → t ≤ℤ m → y ≤ℤ t → ⊥
    clash m n t y a b c d = omega (arith, ints)

not_above : (low high bottom k y : ℤ) → low <ℤ high → pos 0 <ℤ k → pos 2 *ℤ y ≡ (low +ℤ high) *ℤ k → high ≤ℤ bottom → (bottom *ℤ k) ≤ℤ y → ⊥
not_above low high bottom k y o h e t j = clash (low *ℤ k) (high *ℤ k) (bottom *ℤ k) y (steeper low high k o h) (halves low high k y e) (le_mul high bottom k h t) j
  where
    clash : (m n t y : ℤ) → m <ℤ n → pos 2 *ℤ y ≡ m +ℤ n → n ≤ℤ t → t ≤ℤ y → ⊥
    clash m n t y a b c d = omega (arith, ints)

passing : (edges : List Edge) (low high : ℤ) (m : RatPoint) (e : Edge) → IsStrip edges low high → IsMiddleHeight low high m → IsHeight edges e.a.y → IsHeight edges e.b.y → IsOnClosed m e.a e.b → Passes low high e
passing edges low high m e s h ha hb on = sides (outside edges low high e.a.y s ha) (outside edges low high e.b.y s hb)
  where
    most : (u w z : ℤ) → u ≤ℤ z → w ≤ℤ z → int_max u w ≤ℤ z
    most u w z a b = omega (arith, ints, clamps)

    least : (u w z : ℤ) → z ≤ℤ u → z ≤ℤ w → z ≤ℤ int_min u w
    least u w z a b = omega (arith, ints, clamps)

    sides : (e.a.y ≤ℤ low) ⊎ (high ≤ℤ e.a.y) → (e.b.y ≤ℤ low) ⊎ (high ≤ℤ e.b.y) → Passes low high e
    sides (inl a) (inr b) = upwards a b
    sides (inr a) (inl b) = downwards b a
    sides (inl a) (inl b) = absurd (not_below low high (int_max e.a.y e.b.y) m.k m.y s.ordered h.rational.positive h.middle (most e.a.y e.b.y low a b) on.below_greatest)
    sides (inr a) (inr b) = absurd (not_above low high (int_min e.a.y e.b.y) m.k m.y s.ordered h.rational.positive h.middle (least e.a.y e.b.y high a b) on.above_least)

-- ---- the middle of a gap is right of its first edge and left of its second
after_first : (m q r : RatPoint) → pos 0 <ℤ m.k → pos 0 <ℤ r.k → IsBetween m q r → IsLeftOf q r → IsLeftOf q m
after_first m q r km kr between left =
    lt_cancel (q.x *ℤ m.k) (m.x *ℤ q.k) r.k kr (half _ _ _ _ (ring (q.x ∷ m.k ∷ r.k ∷ []) ((var 0 ⊗ var 1) ⊗ var 2) ((var 0 ⊗ var 2) ⊗ var 1) refl) (ring (m.x ∷ q.k ∷ r.k ∷ []) (num (pos 2) ⊗ ((var 0 ⊗ var 1) ⊗ var 2)) (num (pos 2) ⊗ var 0 ⊗ var 1 ⊗ var 2) refl ∙ between
    ∙ ring (q.x ∷ r.k ∷ r.x ∷ q.k ∷ m.k ∷ []) ((var 0 ⊗ var 1 ⊕ var 2 ⊗ var 3) ⊗ var 4) ((var 0 ⊗ var 1) ⊗ var 4 ⊕ (var 2 ⊗ var 3) ⊗ var 4) refl) (steeper (q.x *ℤ r.k) (r.x *ℤ q.k) m.k left km))
  where
    half : (u w x y : ℤ) → u ≡ x → pos 2 *ℤ w ≡ x +ℤ y → x <ℤ y → u <ℤ w
    half u w x y e f h = omega (arith, ints)

before_second : (m q r : RatPoint) → pos 0 <ℤ m.k → pos 0 <ℤ q.k → IsBetween m q r → IsLeftOf q r → IsLeftOf m r
before_second m q r km kq between left =
    lt_cancel (m.x *ℤ r.k) (r.x *ℤ m.k) q.k kq (half _ _ _ _ (ring (r.x ∷ m.k ∷ q.k ∷ []) ((var 0 ⊗ var 1) ⊗ var 2) ((var 0 ⊗ var 2) ⊗ var 1) refl) (ring (m.x ∷ q.k ∷ r.k ∷ []) (num (pos 2) ⊗ ((var 0 ⊗ var 2) ⊗ var 1)) (num (pos 2) ⊗ var 0 ⊗ var 1 ⊗ var 2) refl ∙ between
    ∙ ring (q.x ∷ r.k ∷ r.x ∷ q.k ∷ m.k ∷ []) ((var 0 ⊗ var 1 ⊕ var 2 ⊗ var 3) ⊗ var 4) ((var 0 ⊗ var 1) ⊗ var 4 ⊕ (var 2 ⊗ var 3) ⊗ var 4) refl) (steeper (q.x *ℤ r.k) (r.x *ℤ q.k) m.k left km))
  where
    half : (u w x y : ℤ) → u ≡ y → pos 2 *ℤ w ≡ x +ℤ y → x <ℤ y → w <ℤ u
    half u w x y e f h = omega (arith, ints)

-- the middle of a gap is on no edge
pub middle_off : (edges : List Edge) (m : RatPoint) → IsGapMiddle edges m → IsOff m edges
middle_off edges m g = recursion_from_All (λ e. ¬ (IsOnClosed m e.a e.b)) edges (λ i d h on. g.gap.successive m (at_edge (λ e. IsCrossing g.low g.high e m) i d h (crossing i d h on))
    (after_first m g.left g.right g.height.rational.positive g.gap.second.4.height.rational.positive g.between g.gap.ordered) (before_second m g.left g.right g.height.rational.positive g.gap.first.4.height.rational.positive g.between g.gap.ordered))
  where
    at_edge : (P : Edge → Type 0) (i : ℕ) (d : Edge) → i < length edges → P (slice_index_or edges i d) → Any P edges
    at_edge P i d h p = (i, slice_index_or edges i d, h, get_or_default edges i (slice_index_or edges i d) d h, p)

    crossing : (i : ℕ) (d : Edge) → i < length edges → IsOnClosed m (slice_index_or edges i d).a (slice_index_or edges i d).b → IsCrossing g.low g.high (slice_index_or edges i d) m
    crossing i d h on = record {
      passes = passing edges g.low g.high m (slice_index_or edges i d) g.strip g.height (at_edge (λ e. (e.a.y ≡ (slice_index_or edges i d).a.y) ⊎ (e.b.y ≡ (slice_index_or edges i d).a.y)) i d h (inl refl)) (at_edge (λ e. (e.a.y ≡ (slice_index_or edges i d).b.y) ⊎ (e.b.y ≡ (slice_index_or edges i d).b.y)) i d h (inr refl)) on;
      height = g.height;
      straight = on.straight;
    }
