-- The strips between successive heights of edges are those between successive levels.
use Rattle.std.proofs.Common.{◌≡◌, ℕ, ◌-◌, ◌<◌, ◌≤◌, List, length, slice_index, sym, ◌∙◌, ap, subst, arith, ◌⊎◌, inl, inr}
use lib.IntN.{ℤ, pos, ◌+ℤ◌, ◌-ℤ◌}
use lib.Signed.{◌<ℤ◌, ◌≤ℤ◌}
use Rattle.std.proofs.lemmas.Int.{ints}
use Rattle.std.proofs.lemmas.Bool.{cases_lt}
use Rattle.std.specs.List.Sorted.{IsStrictlyIncreasing}
use Rattle.grid_geom.specs.declared.Edge.{Edge}
use Rattle.grid_geom.proofs.Signs.{ordered}
use Rattle.geom_check.specs.Strips.{IsHeight, IsStrip}
use Rattle.geom_check.specs.RiserOrder.{HasLevel, IsLevelsOf, height_of}
use Rattle.geom_check.proofs.Levels.{clear_end, rises_to, height_is, strip_ordered}
use Rattle.geom_check.proofs.LevelLists.{has_level}
use Rattle.geom_check.proofs.KeyOrder.{number}
use Rattle.grid_geom.specs.declared.TheConstants.{GRID}

-- a height of an edge that isn't below the grid is a level
level_of : (edges : List Edge) (levels : List ℕ) (h : ℤ) → IsLevelsOf edges (length edges) levels → IsHeight edges h → pos 0 ≤ℤ (h +ℤ GRID) → HasLevel levels h
level_of edges levels h l t n = by_number (number (h +ℤ GRID) n)
  where
    by_number : ((m : ℕ) × (pos m ≡ h +ℤ GRID)) → HasLevel levels h
    by_number m = has_level levels h m.0 m.1 (elim t.4 [
      | inl e ↦ l.starts t.0 t.1 m.0 t.2 (m.1 ∙ ap (λ (z : ℤ). z +ℤ GRID) (sym e ∙ ap (λ (x : Edge). x.a.y) (sym t.3)))
      | inr e ↦ l.ends t.0 t.1 m.0 t.2 (m.1 ∙ ap (λ (z : ℤ). z +ℤ GRID) (sym e ∙ ap (λ (x : Edge). x.b.y) (sym t.3)))
    ])

height_at : (edges : List Edge) (levels : List ℕ) (i : ℕ) → IsLevelsOf edges (length edges) levels → i < length levels → IsHeight edges (height_of levels i)
height_at edges levels i l h = l.heights i 0 h

-- the strip between two successive levels
pub strip_of : (edges : List Edge) (levels : List ℕ) (i : ℕ) → IsStrictlyIncreasing levels → IsLevelsOf edges (length edges) levels → 1 ≤ i → i < length levels → IsStrip edges (height_of levels (i - 1)) (height_of levels i)
strip_of edges levels i up l j k = record {
  low_is = height_at edges levels (i - 1) l (omega arith);
  high_is = height_at edges levels i l k;
  ordered = strip_ordered levels i up j k;
  successive = λ h t below above. elim (clear_end levels i h up j k (level_of edges levels h l t (inside (slice_index levels (i - 1)) h below))) [
    | inl n ↦ absurd (clash (height_of levels (i - 1)) h below n)
    | inr n ↦ absurd (clash h (height_of levels i) above n)
  ];
}
  where
    inside : (n : ℕ) (h : ℤ) → (pos n -ℤ GRID) <ℤ h → pos 0 ≤ℤ (h +ℤ GRID)
    inside n h b = omega (arith, ints)

    clash : (m n : ℤ) → m <ℤ n → n ≤ℤ m → ⊥
    clash m n h j = omega (arith, ints)

-- the place of a strip among the levels
pub record IsPlaced (levels : List ℕ) (low high : ℤ) : Type 0 where
  pub place : ℕ
  pub positive : 1 ≤ place
  pub in_list : place < length levels
  pub low_is : height_of levels (place - 1) ≡ low
  pub high_is : height_of levels place ≡ high

pub placed_of : (edges : List Edge) (levels : List ℕ) (low high : ℤ) → IsStrictlyIncreasing levels → IsLevelsOf edges (length edges) levels → IsStrip edges low high → pos 0 ≤ℤ (low +ℤ GRID) → IsPlaced levels low high
placed_of edges levels low high up l strip n = by_levels (level_of edges levels low l strip.low_is n) (level_of edges levels high l strip.high_is (upper low high n strip.ordered))
  where
    upper : (m n : ℤ) → pos 0 ≤ℤ (m +ℤ GRID) → m <ℤ n → pos 0 ≤ℤ (n +ℤ GRID)
    upper m n h j = omega (arith, ints)

    clash : (m n : ℤ) → m <ℤ n → n ≤ℤ m → ⊥
    clash m n h j = omega (arith, ints)

    at_most : (m n : ℕ) → m ≤ n → (pos m -ℤ GRID) ≤ℤ (pos n -ℤ GRID)
    at_most m n h = omega (arith, ints)

    by_levels : HasLevel levels low → HasLevel levels high → IsPlaced levels low high
    by_levels a b = by_order (cases_lt a.index b.index)
      where
        by_order : ((a.index < b.index) ⊎ (b.index ≤ a.index)) → IsPlaced levels low high
        by_order (inr k) = absurd (clash low high strip.ordered (subst (λ (z : ℤ). z ≤ℤ low) (height_is levels high b) (subst (λ (z : ℤ). height_of levels b.index ≤ℤ z) (height_is levels low a) (at_most (slice_index levels b.index) (slice_index levels a.index) (rises_to levels b.index a.index up k a.in_list)))))
        by_order (inl k) = record {
          place = b.index;
          positive = omega arith;
          in_list = b.in_list;
          low_is = elim (ordered low (height_of levels (b.index - 1))) [
            | inl m ↦ absurd (strip.successive (height_of levels (b.index - 1)) (height_at edges levels (b.index - 1) l (omega (arith, b.in_list))) m (subst (λ (z : ℤ). height_of levels (b.index - 1) <ℤ z) (height_is levels high b) (strip_ordered levels b.index up (omega arith) b.in_list)))
            | inr r ↦ elim r [
              | inl e ↦ sym e
              | inr m ↦ absurd (clash (height_of levels (b.index - 1)) low m (subst (λ (z : ℤ). z ≤ℤ height_of levels (b.index - 1)) (height_is levels low a) (at_most (slice_index levels a.index) (slice_index levels (b.index - 1)) (rises_to levels a.index (b.index - 1) up (omega arith) (omega (arith, b.in_list))))))
            ]
          ];
          high_is = height_is levels high b;
        }
