-- The middle of the gap to the right of the first fault is a witness: the middles of gaps before it have no fault, and no other name of its place has a lesser k.
use Rattle.std.proofs.Common.{◌≡◌, ◌≢◌, ℕ, ◌-◌, ◌≤◌, Bool, true, List, [], ◌∷◌, slice_index, sym, ◌∙◌, ap, subst, refl, arith, inl, inr}
use lib.IntN.{ℤ, pos, ◌+ℤ◌, ◌-ℤ◌, ◌*ℤ◌}
use lib.Signed.{◌<ℤ◌, ◌≤ℤ◌}
use Rattle.std.proofs.lemmas.Int.{ints}
use Rattle.std.proofs.lemmas.Bool.{cases_order}
use Rattle.std.proofs.lemmas.List.Elements.{All-filter}
use Rattle.grid_geom.specs.declared.RatPoint.{RatPoint}
use Rattle.grid_geom.specs.declared.Edge.{Edge}
use Rattle.grid_geom.specs.Plane.{orient_rat}
use Rattle.grid_geom.proofs.Ring.{var, num, ◌⊖◌, ◌⊗◌, ring}
use Rattle.grid_geom.proofs.Signs.{pos_mul}
use Rattle.geom_check.specs.declared.risers.Riser.{Riser}
use Rattle.geom_check.specs.declared.risers.Passing.{Passing}
use Rattle.geom_check.specs.declared.strips.Strip.{Strip}
use Rattle.geom_check.specs.Accepted.{IsZeroOrOne}
use Rattle.geom_check.specs.Strips.{IsStrip, IsMiddleHeight, IsGapMiddle, IsBefore, IsLeftOf, IsWitness}
use Rattle.geom_check.specs.Risers.{is_beside, winding_of}
use Rattle.geom_check.specs.RiserOrder.{IsInStrip, IsLowestFault, IsOffRisers, height_of, is_border}
use Rattle.geom_check.specs.Gaps.{IsGapAfter}
use Rattle.geom_check.proofs.Levels.{rises_to}
use Rattle.geom_check.proofs.Borders.{winding_borders}
use Rattle.geom_check.proofs.Midway.{IsMidway, in_strip, off_midway, midway_after}
use Rattle.geom_check.proofs.GapStrips.{IsPlaced, placed_of, strip_of}
use Rattle.geom_check.proofs.RiserMiddles.{grid_at, midway_of, midway_height, gap_of}
use Rattle.geom_check.proofs.FirstFaults.{borders_of, AreGiven, ordered_at, clear_at, placed_at, IsFaultAt, fault_at, left_passing, left_key, left_among, fault_in_gap, side_before}
use Rattle.grid_geom.specs.declared.TheConstants.{GRID}

-- ---- heights of two places
heights : (m a y z k l : ℤ) → pos 2 *ℤ m ≡ y *ℤ k → pos 2 *ℤ a ≡ z *ℤ l → pos 2 *ℤ (m *ℤ l -ℤ a *ℤ k) ≡ (y -ℤ z) *ℤ (k *ℤ l)
heights m a y z k l e f =
    ring (m ∷ a ∷ k ∷ l ∷ []) (num (pos 2) ⊗ (var 0 ⊗ var 3 ⊖ var 1 ⊗ var 2)) ((num (pos 2) ⊗ var 0) ⊗ var 3 ⊖ (num (pos 2) ⊗ var 1) ⊗ var 2) refl ∙ ap (λ (n : ℤ). n *ℤ l -ℤ (pos 2 *ℤ a) *ℤ k) e ∙ ap (λ (n : ℤ). (y *ℤ k) *ℤ l -ℤ n *ℤ k) f
    ∙ ring (y ∷ z ∷ k ∷ l ∷ []) ((var 0 ⊗ var 2) ⊗ var 3 ⊖ (var 1 ⊗ var 3) ⊗ var 2) ((var 0 ⊖ var 1) ⊗ (var 2 ⊗ var 3)) refl

-- at one height, what is before is to the left
left_of_before : (low high : ℤ) (m at : RatPoint) → IsMiddleHeight low high m → IsMiddleHeight low high at → IsBefore m at → IsLeftOf m at
left_of_before low high m at e f (inr l) = l.1
left_of_before low high m at e f (inl l) = absurd (level (m.y *ℤ at.k) (at.y *ℤ m.k) (low +ℤ high) (m.k *ℤ at.k) (heights m.y at.y (low +ℤ high) (low +ℤ high) m.k at.k e.middle f.middle) l)
  where
    level : (m n y k : ℤ) → pos 2 *ℤ (m -ℤ n) ≡ (y -ℤ y) *ℤ k → m <ℤ n → ⊥
    level m n y k e h = omega (arith, ints, e ∙ ring (y ∷ k ∷ []) ((var 0 ⊖ var 0) ⊗ var 1) (num (pos 0)) refl, h)

-- what is in a higher strip isn't before
not_higher : (low high l h : ℤ) (m at : RatPoint) → IsMiddleHeight l h m → IsMiddleHeight low high at → (low +ℤ high) <ℤ (l +ℤ h) → IsBefore m at → ⊥
not_higher low high l h m at e f up b = by_before b
  where
    rises_by : (m n y z k : ℤ) → pos 2 *ℤ (m -ℤ n) ≡ (y -ℤ z) *ℤ k → pos 0 <ℤ ((y -ℤ z) *ℤ k) → n <ℤ m
    rises_by m n y z k e h = omega (arith, ints, e, h)

    more : (m n : ℤ) → m <ℤ n → pos 0 <ℤ (n -ℤ m)
    more m n h = omega (arith, ints)

    higher : (at.y *ℤ m.k) <ℤ (m.y *ℤ at.k)
    higher = rises_by (m.y *ℤ at.k) (at.y *ℤ m.k) (l +ℤ h) (low +ℤ high) (m.k *ℤ at.k) (heights m.y at.y (l +ℤ h) (low +ℤ high) m.k at.k e.middle f.middle) (pos_mul ((l +ℤ h) -ℤ (low +ℤ high)) (m.k *ℤ at.k) (more (low +ℤ high) (l +ℤ h) up) (pos_mul m.k at.k e.rational.positive f.rational.positive))

    clash : (m n : ℤ) → m <ℤ n → n <ℤ m → ⊥
    clash m n h j = omega (arith, ints)

    same : (m n : ℤ) → m <ℤ n → n ≡ m → ⊥
    same m n h j = omega (arith, ints)

    by_before : IsBefore m at → ⊥
    by_before (inl b) = clash (at.y *ℤ m.k) (m.y *ℤ at.k) higher b
    by_before (inr b) = same (at.y *ℤ m.k) (m.y *ℤ at.k) higher b.0

moved : (low high l h : ℤ) (rs : List Riser) (m : RatPoint) → l ≡ low → h ≡ high → IsMidway l h rs m → IsMidway low high rs m
moved low high l h rs m e f w = subst (λ (z : ℤ). IsMidway z high rs m) e (subst (λ (z : ℤ). IsMidway l z rs m) f w)

-- ---- the first middle of a gap with a fault
pub side_of_earlier : (edges : List Edge) (levels : List ℕ) (chosen : ℕ → Bool) (rs : List Riser) (strip : Strip) (left : Passing) (at m : RatPoint) → AreGiven edges levels chosen rs → IsLowestFault levels chosen (borders_of chosen rs) strip left →
    (g : IsMidway strip.low strip.high rs at) → g.left ≡ left.riser → g.left_key ≡ left.key → IsGapMiddle edges m → IsBefore m at → IsZeroOrOne (winding_of chosen m rs)
side_of_earlier edges levels chosen rs strip left at m given f g r e gap before = elim (cases_order placed.place f.place) [
  | inl same ↦ in_strip_of (sym placed.low_is ∙ ap (λ (n : ℕ). height_of levels (n - 1)) same ∙ sym f.low_is) (sym placed.high_is ∙ ap (λ (n : ℕ). height_of levels n) same ∙ sym f.high_is)
  | inr apart ↦ elim apart [
    | inl lower ↦ subst (λ (z : ℤ). IsZeroOrOne z) (winding_borders chosen m rs)
        (f.below placed.place placed.positive lower m (subst (λ (z : ℤ). IsInStrip z (height_of levels placed.place) m) (sym placed.low_is) (subst (λ (z : ℤ). IsInStrip gap.low z m) (sym placed.high_is) inside))
        (All-filter (is_border chosen) (λ r. is_beside m r ≡ true → orient_rat r.a r.b m ≢ pos 0) rs off))
    | inr higher ↦ absurd (not_higher strip.low strip.high gap.low gap.high m at gap.height (midway_height strip.low strip.high rs at ordered g)
        (sums strip.low strip.high gap.low gap.high ordered gap.strip.ordered
        (subst (λ (z : ℤ). z ≤ℤ gap.low) (sym f.high_is) (subst (λ (z : ℤ). height_of levels f.place ≤ℤ z) placed.low_is (at_most (slice_index levels f.place) (slice_index levels (placed.place - 1)) (rises_to levels f.place (placed.place - 1) given.increasing (omega arith) (omega (arith, placed.in_list))))))) before)
  ]
]
  where
    at_most : (m n : ℕ) → m ≤ n → (pos m -ℤ GRID) ≤ℤ (pos n -ℤ GRID)
    at_most m n h = omega (arith, ints)

    sums : (a b c d : ℤ) → a <ℤ b → c <ℤ d → b ≤ℤ c → (a +ℤ b) <ℤ (c +ℤ d)
    sums a b c d h j k = omega (arith, ints)

    ordered : strip.low <ℤ strip.high
    ordered = ordered_at levels chosen (borders_of chosen rs) strip left given.increasing f

    midway : IsMidway gap.low gap.high rs m
    midway = midway_of gap.low gap.high edges rs gap.left gap.right m gap.strip.ordered given.of_edges given.grid gap.gap gap.height gap.between

    above_bottom : (low a : ℤ) → a ≤ℤ low → (pos 0 -ℤ GRID) ≤ℤ a → pos 0 ≤ℤ (low +ℤ GRID)
    above_bottom low a h j = omega (arith, ints)

    placed : IsPlaced levels gap.low gap.high
    placed = placed_of edges levels gap.low gap.high given.increasing given.heights gap.strip (above_bottom gap.low midway.left.a.y midway.left_passing.from_low (grid_at rs midway.left given.grid midway.left_among).a.y_within.least)

    inside : IsInStrip gap.low gap.high m
    inside = in_strip gap.low gap.high m gap.strip.ordered gap.height

    off : IsOffRisers m rs
    off = off_midway gap.low gap.high rs m midway gap.strip.ordered inside (clear_at levels gap.low gap.high rs placed given.increasing given.levels_of) given.grid

    in_strip_of : gap.low ≡ strip.low → gap.high ≡ strip.high → IsZeroOrOne (winding_of chosen m rs)
    in_strip_of e_low e_high =
        let w : IsMidway strip.low strip.high rs m = moved strip.low strip.high gap.low gap.high rs m e_low e_high midway in
        let h : IsMiddleHeight strip.low strip.high m = midway_height strip.low strip.high rs m ordered w in
        side_before strip.low strip.high chosen rs f.fault.items f.fault.place left at m (fault_at edges levels chosen rs strip left given f) g r e w (in_strip strip.low strip.high m ordered h) off
        (left_of_before strip.low strip.high m at h (midway_height strip.low strip.high rs at ordered g) before)

witness_by : (edges : List Edge) (levels : List ℕ) (chosen : ℕ → Bool) (rs : List Riser) (strip : Strip) (left : Passing) (at : RatPoint) → AreGiven edges levels chosen rs → IsLowestFault levels chosen (borders_of chosen rs) strip left → IsGapAfter strip.low strip.high rs left at →
    (g : IsMidway strip.low strip.high rs at) → g.left ≡ left.riser → g.left_key ≡ left.key → IsWitness (λ q. ¬ IsZeroOrOne (winding_of chosen q rs)) edges at
witness_by edges levels chosen rs strip left at given f gap g r e = record {
  middle = gap_of strip.low strip.high edges rs at ordered strip_is given.of_edges given.grid g;
  fault = fault_in_gap strip.low strip.high chosen rs f.fault.items f.fault.place left at (fault_at edges levels chosen rs strip left given f) g e inside
      (off_midway strip.low strip.high rs at g ordered inside (clear_at levels strip.low strip.high rs (placed_at levels chosen (borders_of chosen rs) strip left f) given.increasing given.levels_of) given.grid);
  first = λ m gap before fault. fault (side_of_earlier edges levels chosen rs strip left at m given f g r e gap before);
  least = gap.middle_is.least;
}
  where
    ordered : strip.low <ℤ strip.high
    ordered = ordered_at levels chosen (borders_of chosen rs) strip left given.increasing f

    inside : IsInStrip strip.low strip.high at
    inside = in_strip strip.low strip.high at ordered (midway_height strip.low strip.high rs at ordered g)

    strip_is : IsStrip edges strip.low strip.high
    strip_is = subst (λ (z : ℤ). IsStrip edges z strip.high) (sym f.low_is) (subst (λ (z : ℤ). IsStrip edges (height_of levels (f.place - 1)) z) (sym f.high_is) (strip_of edges levels f.place given.increasing given.heights f.positive f.in_list))

pub witness_of : (edges : List Edge) (levels : List ℕ) (chosen : ℕ → Bool) (rs : List Riser) (strip : Strip) (left : Passing) (at : RatPoint) → AreGiven edges levels chosen rs → IsLowestFault levels chosen (borders_of chosen rs) strip left → IsGapAfter strip.low strip.high rs left at →
    IsWitness (λ q. ¬ IsZeroOrOne (winding_of chosen q rs)) edges at
witness_of edges levels chosen rs strip left at given f gap =
    let found : IsFaultAt strip.low strip.high chosen rs f.fault.items f.fault.place left = fault_at edges levels chosen rs strip left given f in
    witness_by edges levels chosen rs strip left at given f gap
    (midway_after strip.low strip.high rs left at (left_among strip.low strip.high chosen rs f.fault.items f.fault.place left found) (left_passing strip.low strip.high chosen rs f.fault.items f.fault.place left found) (left_key strip.low strip.high chosen rs f.fault.items f.fault.place left found) gap)
    refl refl
