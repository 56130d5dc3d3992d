-- The middles of gaps between edges are those between neighbouring risers.
use Rattle.std.proofs.Common.{◌≡◌, ℕ, ◌<◌, ◌≤◌, List, [], ◌∷◌, All, Contains, ◌∙◌, ap, subst, refl, arith, inl, inr}
use lib.IntN.{ℤ, pos, ◌+ℤ◌, ◌-ℤ◌, ◌*ℤ◌}
use lib.Signed.{◌<ℤ◌}
use Rattle.std.proofs.lemmas.Bool.{cases_lt}
use Rattle.grid_geom.specs.declared.RatPoint.{RatPoint}
use Rattle.grid_geom.specs.declared.Edge.{Edge}
use Rattle.grid_geom.proofs.Ring.{var, num, ◌⊕◌, ◌⊖◌, ◌⊗◌, ring}
use Rattle.grid_geom.proofs.Signs.{pos_mul}
use Rattle.geom_check.specs.declared.risers.Riser.{Riser}
use Rattle.geom_check.specs.Strips.{IsStrip, IsMiddleHeight, IsLeftOf, IsGap, IsBetween, IsGapMiddle}
use Rattle.geom_check.specs.Risers.{AreRisersOf}
use Rattle.geom_check.specs.RiserOrder.{over, under, IsPassing, IsKey, IsRiserOnGrid}
use Rattle.geom_check.proofs.RiserOrder.{across}
use Rattle.geom_check.proofs.RiserPlace.{tall}
use Rattle.geom_check.proofs.Divisors.{cancelled}
use Rattle.geom_check.proofs.KeyOrder.{west_by_keys, keys_by_west, has_key}
use Rattle.geom_check.proofs.Crossings.{place, place_on, place_height, IsOn, along, riser_at, edge_at, west_of_left, left_of_west}
use Rattle.geom_check.proofs.Midway.{IsMidway}
use Rattle.geom_check.specs.declared.limits.TheConstants.{WIDTH}
use Rattle.grid_geom.specs.declared.TheConstants.{GRID}

-- a riser of the list is on the grid
pub grid_at : (rs : List Riser) (r : Riser) → All IsRiserOnGrid rs → Contains rs r → IsRiserOnGrid r
grid_at rs r grid c = subst (λ (x : Riser). IsRiserOnGrid x) c.2 (grid c.0 r c.1)

-- ---- from the gap between two edges to the risers
same_x : (m p q M a b u w d e : ℤ) → pos 2 *ℤ m *ℤ p *ℤ q ≡ (d *ℤ q +ℤ e *ℤ p) *ℤ M → u *ℤ d ≡ p *ℤ (a -ℤ GRID *ℤ u) → w *ℤ e ≡ q *ℤ (b -ℤ GRID *ℤ w) → pos 0 <ℤ p → pos 0 <ℤ q →
    m *ℤ (pos 2 *ℤ (u *ℤ w)) ≡ (a *ℤ w +ℤ b *ℤ u -ℤ pos WIDTH *ℤ (u *ℤ w)) *ℤ M
same_x m p q M a b u w d e f g h j k = cancelled (p *ℤ q) _ _ (pos_mul p q j k)
    (ring (m ∷ p ∷ q ∷ u ∷ w ∷ []) (var 0 ⊗ (num (pos 2) ⊗ (var 3 ⊗ var 4)) ⊗ (var 1 ⊗ var 2)) ((var 3 ⊗ var 4) ⊗ (num (pos 2) ⊗ var 0 ⊗ var 1 ⊗ var 2)) refl ∙ ap (λ (z : ℤ). (u *ℤ w) *ℤ z) f
    ∙ ring (p ∷ q ∷ M ∷ u ∷ w ∷ d ∷ e ∷ []) ((var 3 ⊗ var 4) ⊗ ((var 5 ⊗ var 1 ⊕ var 6 ⊗ var 0) ⊗ var 2)) (((var 3 ⊗ var 5) ⊗ (var 1 ⊗ var 4) ⊕ (var 4 ⊗ var 6) ⊗ (var 0 ⊗ var 3)) ⊗ var 2) refl
    ∙ ap (λ (z : ℤ). (z *ℤ (q *ℤ w) +ℤ (w *ℤ e) *ℤ (p *ℤ u)) *ℤ M) g ∙ ap (λ (z : ℤ). ((p *ℤ (a -ℤ GRID *ℤ u)) *ℤ (q *ℤ w) +ℤ z *ℤ (p *ℤ u)) *ℤ M) h
    ∙ ring (p ∷ q ∷ M ∷ a ∷ b ∷ u ∷ w ∷ []) (((var 0 ⊗ (var 3 ⊖ num GRID ⊗ var 5)) ⊗ (var 1 ⊗ var 6) ⊕ (var 1 ⊗ (var 4 ⊖ num GRID ⊗ var 6)) ⊗ (var 0 ⊗ var 5)) ⊗ var 2)
    ((var 3 ⊗ var 6 ⊕ var 4 ⊗ var 5 ⊖ num (pos WIDTH) ⊗ (var 5 ⊗ var 6)) ⊗ var 2 ⊗ (var 0 ⊗ var 1)) refl)

same_y : (m M y v : ℤ) → pos 2 *ℤ m ≡ y *ℤ M → m *ℤ (pos 2 *ℤ v) ≡ (y *ℤ v) *ℤ M
same_y m M y v e = ring (m ∷ v ∷ []) (var 0 ⊗ (num (pos 2) ⊗ var 1)) ((num (pos 2) ⊗ var 0) ⊗ var 1) refl ∙ ap (λ (z : ℤ). z *ℤ v) e ∙ ring (M ∷ y ∷ v ∷ []) ((var 1 ⊗ var 0) ⊗ var 2) ((var 1 ⊗ var 2) ⊗ var 0) refl

pub midway_of : (low high : ℤ) (edges : List Edge) (rs : List Riser) (q r m : RatPoint) → low <ℤ high → AreRisersOf edges rs → All IsRiserOnGrid rs → IsGap edges low high q r → IsMiddleHeight low high m → IsBetween m q r → IsMidway low high rs m
midway_of low high edges rs q r m h are grid g height between = record {
  left = first.0;
  right = second.0;
  left_key = first_key.0;
  right_key = second_key.0;
  left_among = first.1;
  right_among = second.1;
  left_passing = first.2.passing;
  right_passing = second.2.passing;
  left_key_is = first_key.1;
  right_key_is = second_key.1;
  ordered = keys_by_west (low +ℤ high) first.0 second.0 first_key.0 second_key.0 first_key.1 second_key.1
      (west_of_left (low +ℤ high) first.0 second.0 q r (up first.0 first.2.passing) (up second.0 second.2.passing) g.first.4.height.rational.positive g.second.4.height.rational.positive g.first.4.height.middle g.second.4.height.middle first.2.on second.2.on g.ordered);
  none = λ t key c p k n. elim (cases_lt key second_key.0) [
    | inr l ↦ l
    | inl l ↦ absurd (g.successive (place (low +ℤ high) t) (edge_at low high edges rs t h are c p)
        (left_of_west (low +ℤ high) first.0 t q (place (low +ℤ high) t) (up first.0 first.2.passing) (up t p) g.first.4.height.rational.positive (place_height low high t h p).rational.positive g.first.4.height.middle (place_height low high t h p).middle first.2.on (place_on (low +ℤ high) t)
        (west_by_keys (low +ℤ high) first.0 t first_key.0 key first_key.1 k n))
        (left_of_west (low +ℤ high) t second.0 (place (low +ℤ high) t) r (up t p) (up second.0 second.2.passing) (place_height low high t h p).rational.positive g.second.4.height.rational.positive (place_height low high t h p).middle g.second.4.height.middle (place_on (low +ℤ high) t) second.2.on
        (west_by_keys (low +ℤ high) t second.0 key second_key.0 k second_key.1 l)))
  ];
  rational = height.rational;
  same = record {
    same_x = same_x m.x q.k r.k m.k (over (low +ℤ high) first.0) (over (low +ℤ high) second.0) (under first.0) (under second.0) q.x r.x between (along (low +ℤ high) first.0 q g.first.4.height.middle first.2.on) (along (low +ℤ high) second.0 r g.second.4.height.middle second.2.on)
        g.first.4.height.rational.positive g.second.4.height.rational.positive;
    same_y = same_y m.y m.k (low +ℤ high) (under first.0 *ℤ under second.0) height.middle;
  };
}
  where
    first : (p : Riser) × Contains rs p × IsOn low high q p
    first = riser_at low high edges rs q h are g.first

    second : (p : Riser) × Contains rs p × IsOn low high r p
    second = riser_at low high edges rs r h are g.second

    first_key : (k : ℕ) × IsKey (low +ℤ high) first.0 k
    first_key = has_key low high first.0 h (grid_at rs first.0 grid first.1) first.2.passing

    second_key : (k : ℕ) × IsKey (low +ℤ high) second.0 k
    second_key = has_key low high second.0 h (grid_at rs second.0 grid second.1) second.2.passing

    up : (t : Riser) → IsPassing low high t → pos 0 <ℤ under t
    up t p = tall (low +ℤ high) t (across low high t h p)

-- ---- from neighbouring risers to the gap between two edges
between_places : (m M a b u w : ℤ) → m *ℤ (pos 2 *ℤ (u *ℤ w)) ≡ (a *ℤ w +ℤ b *ℤ u -ℤ pos WIDTH *ℤ (u *ℤ w)) *ℤ M →
    pos 2 *ℤ m *ℤ (pos 2 *ℤ u) *ℤ (pos 2 *ℤ w) ≡ ((pos 2 *ℤ (a -ℤ GRID *ℤ u)) *ℤ (pos 2 *ℤ w) +ℤ (pos 2 *ℤ (b -ℤ GRID *ℤ w)) *ℤ (pos 2 *ℤ u)) *ℤ M
between_places m M a b u w e = ring (m ∷ u ∷ w ∷ []) (num (pos 2) ⊗ var 0 ⊗ (num (pos 2) ⊗ var 1) ⊗ (num (pos 2) ⊗ var 2)) (num (pos 4) ⊗ (var 0 ⊗ (num (pos 2) ⊗ (var 1 ⊗ var 2)))) refl ∙ ap (λ (z : ℤ). pos 4 *ℤ z) e
    ∙ ring (M ∷ a ∷ b ∷ u ∷ w ∷ []) (num (pos 4) ⊗ ((var 1 ⊗ var 4 ⊕ var 2 ⊗ var 3 ⊖ num (pos WIDTH) ⊗ (var 3 ⊗ var 4)) ⊗ var 0))
    (((num (pos 2) ⊗ (var 1 ⊖ num GRID ⊗ var 3)) ⊗ (num (pos 2) ⊗ var 4) ⊕ (num (pos 2) ⊗ (var 2 ⊖ num GRID ⊗ var 4)) ⊗ (num (pos 2) ⊗ var 3)) ⊗ var 0) refl

middle_height : (m M y v : ℤ) → pos 0 <ℤ v → m *ℤ (pos 2 *ℤ v) ≡ (y *ℤ v) *ℤ M → pos 2 *ℤ m ≡ y *ℤ M
middle_height m M y v h e = cancelled v _ _ h (ring (m ∷ v ∷ []) ((num (pos 2) ⊗ var 0) ⊗ var 1) (var 0 ⊗ (num (pos 2) ⊗ var 1)) refl ∙ e ∙ ring (M ∷ y ∷ v ∷ []) ((var 1 ⊗ var 2) ⊗ var 0) ((var 1 ⊗ var 0) ⊗ var 2) refl)

pub midway_height : (low high : ℤ) (rs : List Riser) (m : RatPoint) → low <ℤ high → IsMidway low high rs m → IsMiddleHeight low high m
midway_height low high rs m h w = record {
  rational = w.rational;
  middle = middle_height m.y m.k (low +ℤ high) (under w.left *ℤ under w.right) (pos_mul (under w.left) (under w.right) (tall (low +ℤ high) w.left (across low high w.left h w.left_passing)) (tall (low +ℤ high) w.right (across low high w.right h w.right_passing))) w.same.same_y;
}

pub gap_of : (low high : ℤ) (edges : List Edge) (rs : List Riser) (m : RatPoint) → low <ℤ high → IsStrip edges low high → AreRisersOf edges rs → All IsRiserOnGrid rs → IsMidway low high rs m → IsGapMiddle edges m
gap_of low high edges rs m h strip are grid w = record {
  low = low;
  high = high;
  strip = strip;
  left = place (low +ℤ high) w.left;
  right = place (low +ℤ high) w.right;
  gap = record {
    first = edge_at low high edges rs w.left h are w.left_among w.left_passing;
    second = edge_at low high edges rs w.right h are w.right_among w.right_passing;
    ordered = left_of_west (low +ℤ high) w.left w.right (place (low +ℤ high) w.left) (place (low +ℤ high) w.right) (up w.left w.left_passing) (up w.right w.right_passing) left_at.rational.positive right_at.rational.positive left_at.middle right_at.middle (place_on (low +ℤ high) w.left)
        (place_on (low +ℤ high) w.right) (west_by_keys (low +ℤ high) w.left w.right w.left_key w.right_key w.left_key_is w.right_key_is w.ordered);
    successive = λ q c l r. no_crossing q c.4.height (riser_at low high edges rs q h are c) l r;
  };
  height = midway_height low high rs m h w;
  between = between_places m.x m.k (over (low +ℤ high) w.left) (over (low +ℤ high) w.right) (under w.left) (under w.right) w.same.same_x;
}
  where
    up : (t : Riser) → IsPassing low high t → pos 0 <ℤ under t
    up t p = tall (low +ℤ high) t (across low high t h p)

    left_at : IsMiddleHeight low high (place (low +ℤ high) w.left)
    left_at = place_height low high w.left h w.left_passing

    right_at : IsMiddleHeight low high (place (low +ℤ high) w.right)
    right_at = place_height low high w.right h w.right_passing

    no_crossing : (q : RatPoint) → IsMiddleHeight low high q → ((t : Riser) × Contains rs t × IsOn low high q t) → IsLeftOf (place (low +ℤ high) w.left) q → IsLeftOf q (place (low +ℤ high) w.right) → ⊥
    no_crossing q e t l r =
        let k = has_key low high t.0 h (grid_at rs t.0 grid t.1) t.2.passing in
        let a : w.left_key < k.0 = keys_by_west (low +ℤ high) w.left t.0 w.left_key k.0 w.left_key_is k.1
        (west_of_left (low +ℤ high) w.left t.0 (place (low +ℤ high) w.left) q (up w.left w.left_passing) (up t.0 t.2.passing) left_at.rational.positive e.rational.positive left_at.middle e.middle (place_on (low +ℤ high) w.left) t.2.on l) in
        let b : k.0 < w.right_key = keys_by_west (low +ℤ high) t.0 w.right k.0 w.right_key k.1 w.right_key_is
        (west_of_left (low +ℤ high) t.0 w.right q (place (low +ℤ high) w.right) (up t.0 t.2.passing) (up w.right w.right_passing) e.rational.positive right_at.rational.positive e.middle right_at.middle t.2.on (place_on (low +ℤ high) w.right) r) in
        clash k.0 w.right_key b (w.none t.0 k.0 t.1 t.2.passing k.1 a)
      where
        clash : (m n : ℕ) → m < n → n ≤ m → ⊥
        clash m n h j = omega arith
