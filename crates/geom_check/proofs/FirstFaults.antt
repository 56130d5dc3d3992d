-- The middle of the gap to the right of the first fault is the first middle of a gap with a fault.
use Rattle.std.proofs.Common.{◌≡◌, ◌≢◌, ℕ, ◌+◌, ◌-◌, ◌<◌, ◌≤◌, Bool, true, false, List, length, slice_index_or, All, Contains, filter, take, sum_by, sym, ◌∙◌, ap, subst, arith, inl, inr}
use lib.IntN.{ℤ, pos, ◌+ℤ◌, ◌-ℤ◌}
use lib.Signed.{◌<ℤ◌, lt_z}
use Rattle.std.proofs.lemmas.Int.{ints}
use Rattle.std.proofs.lemmas.Bool.{cases_lt}
use Rattle.std.proofs.lemmas.List.{take_all}
use Rattle.std.proofs.lemmas.List.Elements.{All-filter}
use Rattle.std.specs.List.Sorted.{IsStrictlyIncreasing}
use Rattle.grid_geom.specs.declared.RatPoint.{RatPoint}
use Rattle.grid_geom.specs.declared.Edge.{Edge}
use Rattle.grid_geom.specs.Plane.{orient_rat}
use Rattle.geom_check.specs.declared.risers.Riser.{Riser}
use Rattle.geom_check.specs.declared.risers.Passing.{Passing}
use Rattle.geom_check.specs.declared.strips.Strip.{Strip}
use Rattle.geom_check.specs.Accepted.{IsZeroOrOne}
use Rattle.geom_check.specs.Strips.{IsLeftOf}
use Rattle.geom_check.specs.Risers.{is_left, is_beside, winding_of, AreRisersOf}
use Rattle.geom_check.specs.RiserOrder.{IsPassing, IsKey, IsClear, IsInStrip, IsOrder, IsFaultyAfter, IsLowestFault, IsLevelsOf, IsRiserOnGrid, IsOffRisers, HasLevels, west_of, east_of, rises, far, height_of, is_border}
use Rattle.geom_check.specs.Gaps.{HasEnd}
use Rattle.geom_check.proofs.RiserOrder.{across, west_or_east}
use Rattle.geom_check.proofs.StripWinding.{IsSplit, strip_winding, balanced, off_items}
use Rattle.geom_check.proofs.Levels.{clear_risers, strip_ordered}
use Rattle.geom_check.proofs.Borders.{winding_borders, border_among}
use Rattle.geom_check.proofs.KeyOrder.{keys_by_west}
use Rattle.geom_check.proofs.Midway.{IsMidway, on_left, on_right, not_left}
use Rattle.geom_check.proofs.GapStrips.{IsPlaced}

-- the borders of the chosen domains
abbrev pub borders_of : (ℕ → Bool) → List Riser → List Riser
borders_of chosen rs = filter (is_border chosen) rs

-- what is given of the risers
pub record AreGiven (edges : List Edge) (levels : List ℕ) (chosen : ℕ → Bool) (rs : List Riser) : Type 0 where
  pub increasing : IsStrictlyIncreasing levels
  pub heights : IsLevelsOf edges (length edges) levels
  pub levels_of : All (HasLevels levels) rs
  pub grid : All IsRiserOnGrid rs
  pub of_edges : AreRisersOf edges rs
  pub balance : (y : ℤ) → winding_of chosen (far y) rs ≡ pos 0

-- ---- the risers of a strip with a fault
-- the strip of the first fault
pub ordered_at : (levels : List ℕ) (chosen : ℕ → Bool) (bs : List Riser) (strip : Strip) (left : Passing) → IsStrictlyIncreasing levels → IsLowestFault levels chosen bs strip left → strip.low <ℤ strip.high
ordered_at levels chosen bs strip left up f = subst (λ (z : ℤ). z <ℤ strip.high) (sym f.low_is) (subst (λ (z : ℤ). height_of levels (f.place - 1) <ℤ z) (sym f.high_is) (strip_ordered levels f.place up f.positive f.in_list))

pub clear_at : (levels : List ℕ) (low high : ℤ) (rs : List Riser) (p : IsPlaced levels low high) → IsStrictlyIncreasing levels → All (HasLevels levels) rs → All (IsClear low high) rs
clear_at levels low high rs p up has = subst (λ (z : ℤ). All (IsClear z high) rs) p.low_is (subst (λ (z : ℤ). All (IsClear (height_of levels (p.place - 1)) z) rs) p.high_is (clear_risers levels p.place rs up p.positive p.in_list has))

pub placed_at : (levels : List ℕ) (chosen : ℕ → Bool) (bs : List Riser) (strip : Strip) (left : Passing) → IsLowestFault levels chosen bs strip left → IsPlaced levels strip.low strip.high
placed_at levels chosen bs strip left f = record { place = f.place; positive = f.positive; in_list = f.in_list; low_is = sym f.low_is; high_is = sym f.high_is }

-- the risers of a strip, in their order, balance
pub record IsBalanced (low high : ℤ) (chosen : ℕ → Bool) (bs : List Riser) (items : List Passing) : Type 0 where
  pub ordered : low <ℤ high
  pub clear : All (IsClear low high) bs
  pub order : IsOrder low high bs items
  pub same : sum_by (west_of chosen) items ≡ sum_by (east_of chosen) items

pub balanced_at : (edges : List Edge) (levels : List ℕ) (chosen : ℕ → Bool) (rs : List Riser) (strip : Strip) (left : Passing) → AreGiven edges levels chosen rs → (f : IsLowestFault levels chosen (borders_of chosen rs) strip left) → IsBalanced strip.low strip.high chosen (borders_of chosen rs) f.fault.items
balanced_at edges levels chosen rs strip left given f = record {
  ordered = ordered_at levels chosen (borders_of chosen rs) strip left given.increasing f;
  clear = clear;
  order = f.fault.order;
  same = balanced strip.low strip.high chosen (borders_of chosen rs) f.fault.items (ordered_at levels chosen (borders_of chosen rs) strip left given.increasing f) clear f.fault.order (winding_borders chosen (far (strip.low +ℤ strip.high)) rs ∙ given.balance (strip.low +ℤ strip.high));
}
  where
    clear : All (IsClear strip.low strip.high) (borders_of chosen rs)
    clear = clear_at levels strip.low strip.high (borders_of chosen rs) (placed_at levels chosen (borders_of chosen rs) strip left f) given.increasing (All-filter (is_border chosen) (HasLevels levels) rs given.levels_of)

-- the last riser has no fault on its right
not_last : (chosen : ℕ → Bool) (items : List Passing) (j : ℕ) → sum_by (west_of chosen) items ≡ sum_by (east_of chosen) items → IsFaultyAfter chosen items j → j + 1 < length items
not_last chosen items j e f = elim (cases_lt (j + 1) (length items)) [
  | inl h ↦ h
  | inr h ↦ absurd (f.fault (inl (ap (λ (ps : List Passing). rises chosen ps) (take_all (j + 1) items h) ∙ none (sum_by (west_of chosen) items) (sum_by (east_of chosen) items) e)))
]
  where
    none : (m n : ℕ) → m ≡ n → pos n -ℤ pos m ≡ pos 0
    none m n e = omega (arith, ints)

-- two risers one after the other have rising keys
rising_keys : (low high : ℤ) (bs : List Riser) (items : List Passing) (d : Passing) (j : ℕ) → low <ℤ high → IsOrder low high bs items → j + 1 < length items → (slice_index_or items j d).key < (slice_index_or items (j + 1) d).key
rising_keys low high bs items d j h o k =
    elim (west_or_east (low +ℤ high) (slice_index_or items j d).riser (slice_index_or items (j + 1) d).riser (across low high (slice_index_or items j d).riser h (o.passing j d (omega arith))) (across low high (slice_index_or items (j + 1) d).riser h (o.passing (j + 1) d k)) (o.free j (j + 1) d (omega arith) k)) [
      | inl w ↦ keys_by_west (low +ℤ high) (slice_index_or items j d).riser (slice_index_or items (j + 1) d).riser (slice_index_or items j d).key (slice_index_or items (j + 1) d).key (o.keys j d (omega arith)) (o.keys (j + 1) d k) w
      | inr w ↦ absurd (clash (slice_index_or items (j + 1) d).key (slice_index_or items j d).key
          (keys_by_west (low +ℤ high) (slice_index_or items (j + 1) d).riser (slice_index_or items j d).riser (slice_index_or items (j + 1) d).key (slice_index_or items j d).key (o.keys (j + 1) d k) (o.keys j d (omega arith)) w) (o.rising j (j + 1) d (omega arith) k))
    ]
  where
    clash : (m n : ℕ) → m < n → n ≤ m → ⊥
    clash m n h j = omega arith

-- the riser with a fault on its right
pub record IsFaultAt (low high : ℤ) (chosen : ℕ → Bool) (rs : List Riser) (items : List Passing) (j : ℕ) (left : Passing) : Type 0 where
  pub balance : IsBalanced low high chosen (borders_of chosen rs) items
  pub faulty : IsFaultyAfter chosen items j
  pub left_is : (d : Passing) → slice_index_or items j d ≡ left

pub fault_at : (edges : List Edge) (levels : List ℕ) (chosen : ℕ → Bool) (rs : List Riser) (strip : Strip) (left : Passing) → AreGiven edges levels chosen rs → (f : IsLowestFault levels chosen (borders_of chosen rs) strip left) → IsFaultAt strip.low strip.high chosen rs f.fault.items f.fault.place left
fault_at edges levels chosen rs strip left given f = record { balance = balanced_at edges levels chosen rs strip left given f; faulty = f.fault.faulty; left_is = f.fault.left_is }

pub left_passing : (low high : ℤ) (chosen : ℕ → Bool) (rs : List Riser) (items : List Passing) (j : ℕ) (left : Passing) → IsFaultAt low high chosen rs items j left → IsPassing low high left.riser
left_passing low high chosen rs items j left f = subst (λ (p : Passing). IsPassing low high p.riser) (f.left_is left) (f.balance.order.passing j left f.faulty.in_list)

pub left_key : (low high : ℤ) (chosen : ℕ → Bool) (rs : List Riser) (items : List Passing) (j : ℕ) (left : Passing) → IsFaultAt low high chosen rs items j left → IsKey (low +ℤ high) left.riser left.key
left_key low high chosen rs items j left f = subst (λ (p : Passing). IsKey (low +ℤ high) p.riser p.key) (f.left_is left) (f.balance.order.keys j left f.faulty.in_list)

pub left_among : (low high : ℤ) (chosen : ℕ → Bool) (rs : List Riser) (items : List Passing) (j : ℕ) (left : Passing) → IsFaultAt low high chosen rs items j left → Contains rs left.riser
left_among low high chosen rs items j left f = subst (λ (p : Passing). Contains rs p.riser) (f.left_is left) (border_among chosen rs (slice_index_or items j left).riser (f.balance.order.among j left f.faulty.in_list))

-- some riser passes further right
pub end_of_fault : (low high : ℤ) (chosen : ℕ → Bool) (rs : List Riser) (items : List Passing) (j : ℕ) (left : Passing) → IsFaultAt low high chosen rs items j left → HasEnd low high rs left
end_of_fault low high chosen rs items j left f = record {
  end = (slice_index_or items (j + 1) left).riser;
  key = (slice_index_or items (j + 1) left).key;
  among = border_among chosen rs (slice_index_or items (j + 1) left).riser (f.balance.order.among (j + 1) left next);
  passing = f.balance.order.passing (j + 1) left next;
  key_is = f.balance.order.keys (j + 1) left next;
  greater = subst (λ (p : Passing). p.key < (slice_index_or items (j + 1) left).key) (f.left_is left) (rising_keys low high (borders_of chosen rs) items left j f.balance.ordered f.balance.order next);
}
  where
    next : j + 1 < length items
    next = not_last chosen items j f.balance.same f.faulty

-- ---- the winding number in the middle of the gap
right_of : (o : ℤ) → o <ℤ pos 0 → lt_z (pos 0) o ≡ false
right_of o h = grind (arith, ints)

left_of : (o : ℤ) → pos 0 <ℤ o → lt_z (pos 0) o ≡ true
left_of o h = grind (arith, ints)

split_at : (low high : ℤ) (chosen : ℕ → Bool) (rs : List Riser) (items : List Passing) (q : RatPoint) → IsBalanced low high chosen (borders_of chosen rs) items → IsInStrip low high q → IsOffRisers q rs → IsSplit q chosen (borders_of chosen rs) items
split_at low high chosen rs items q b s off = strip_winding low high q chosen (borders_of chosen rs) items b.ordered s b.clear b.order
    (off_items low high q (borders_of chosen rs) items s b.order (All-filter (is_border chosen) (λ r. is_beside q r ≡ true → orient_rat r.a r.b q ≢ pos 0) rs off)) b.same

-- q is in the middle of the gap to the right of the fault
pub fault_in_gap : (low high : ℤ) (chosen : ℕ → Bool) (rs : List Riser) (items : List Passing) (j : ℕ) (left : Passing) (at : RatPoint) → IsFaultAt low high chosen rs items j left → (g : IsMidway low high rs at) → g.left_key ≡ left.key → IsInStrip low high at → IsOffRisers at rs →
    ¬ IsZeroOrOne (winding_of chosen at rs)
fault_in_gap low high chosen rs items j left at f g e s off side = f.faulty.fault (subst (λ (n : ℕ). IsZeroOrOne (rises chosen (take n items))) (between split.at j after before) (subst (λ (z : ℤ). IsZeroOrOne z) (sym (winding_borders chosen at rs) ∙ split.winding) side))
  where
    between : (m j : ℕ) → j < m → m ≤ j + 1 → m ≡ j + 1
    between m j h k = omega arith

    split : IsSplit at chosen (borders_of chosen rs) items
    split = split_at low high chosen rs items at f.balance s off

    next : j + 1 < length items
    next = not_last chosen items j f.balance.same f.faulty

    at_most : (m n : ℕ) → m ≡ n → n ≤ m
    at_most m n h = omega arith

    more : (m n o : ℕ) → m ≡ n → n < o → m < o
    more m n o h k = omega arith

    after : j < split.at
    after = split.after j left f.faulty.in_list (right_of _ (on_left low high rs at g (slice_index_or items j left).riser (slice_index_or items j left).key f.balance.ordered (f.balance.order.passing j left f.faulty.in_list) (f.balance.order.keys j left f.faulty.in_list)
        (at_most g.left_key (slice_index_or items j left).key (e ∙ ap (λ (p : Passing). p.key) (sym (f.left_is left))))))

    before : split.at ≤ j + 1
    before = split.not_after (j + 1) left next (left_of _ (on_right low high rs at g (slice_index_or items (j + 1) left).riser (slice_index_or items (j + 1) left).key f.balance.ordered (border_among chosen rs (slice_index_or items (j + 1) left).riser (f.balance.order.among (j + 1) left next))
        (f.balance.order.passing (j + 1) left next) (f.balance.order.keys (j + 1) left next)
        (more g.left_key (slice_index_or items j left).key (slice_index_or items (j + 1) left).key (e ∙ ap (λ (p : Passing). p.key) (sym (f.left_is left))) (rising_keys low high (borders_of chosen rs) items left j f.balance.ordered f.balance.order next))))

-- the middles of gaps of this strip that are further left have no fault
pub side_before : (low high : ℤ) (chosen : ℕ → Bool) (rs : List Riser) (items : List Passing) (j : ℕ) (left : Passing) (at m : RatPoint) → IsFaultAt low high chosen rs items j left → (g : IsMidway low high rs at) → g.left ≡ left.riser → g.left_key ≡ left.key →
    (w : IsMidway low high rs m) → IsInStrip low high m → IsOffRisers m rs → IsLeftOf m at → IsZeroOrOne (winding_of chosen m rs)
side_before low high chosen rs items j left at m f g r e w s off l = elim (cases_lt w.left_key g.left_key) [
  | inr n ↦ absurd (not_left low high rs at m g w f.balance.ordered n (g.none w.right w.right_key w.right_among w.right_passing w.right_key_is (beyond g.left_key w.left_key w.right_key n w.ordered)) l)
  | inl n ↦ subst (λ (z : ℤ). IsZeroOrOne z) (sym split.winding ∙ winding_borders chosen m rs)
      (f.faulty.first split.at (split.not_after j left f.faulty.in_list (subst (λ (p : Riser). is_left m p ≡ true) (r ∙ ap (λ (p : Passing). p.riser) (sym (f.left_is left))) (left_of _ (on_right low high rs m w g.left g.left_key f.balance.ordered g.left_among g.left_passing g.left_key_is n)))))
]
  where
    beyond : (a b c : ℕ) → a ≤ b → b < c → a < c
    beyond a b c h k = omega arith

    split : IsSplit m chosen (borders_of chosen rs) items
    split = split_at low high chosen rs items m f.balance s off
