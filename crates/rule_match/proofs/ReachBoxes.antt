-- The box of a line's reach, cut off at the grid.
use Rattle.std.proofs.Common.{◌≡◌, ℕ, ◌≤◌, ◌⊎◌, inl, inr, [], ◌∷◌, min, refl, sym, ap, ap₂, ◌∙◌, subst, arith, ℤ, pos, neg_ℤ, ◌+ℤ◌, ◌-ℤ◌, ◌*ℤ◌, ◌<ℤ◌, ◌≤ℤ◌, Some, unsigned_abs}
use mir.Val.{SFits, to_z}
use mir.Syntax.{w64, w128}
use Rattle.std.specs.Int.{int_max, int_min}
use Rattle.std.specs.List.{Contains}
use Rattle.std.proofs.lemmas.Int.{ints, clamps, to_z-of_z, to_z_pos}
use Rattle.grid_geom.specs.declared.TheConstants.{GRID}
use Rattle.grid_geom.specs.declared.Point.{Point}
use Rattle.grid_geom.specs.declared.Bounds.{Bounds}
use Rattle.grid_geom.specs.Boxes.{DoBoundsMeet}
use Rattle.grid_geom.specs.Bounds.{IsWithin, IsOnGrid}
use Rattle.grid_geom.proofs.Ring.{var, num, ◌⊖◌, ◌⊗◌, ring}
use Rattle.grid_geom.proofs.Signs.{nn_mul}
use Rattle.grid_geom.proofs.Within.{within_mul}
use Rattle.state_law.specs.State.{State}
use Rattle.size_field.specs.Size.{SizeField}
use Rattle.rule_maps.specs.Frame.{LocalFrame, IsFrame, IsHeight}
use Rattle.rule_maps.proofs.Frames.{cast64, cast128, frame_bounds}
use Rattle.front_chain.specs.Front.{FrontState, line_at}
use Rattle.rule_match.specs.Base.{IsFramed}
use Rattle.rule_match.specs.Near.{widening, reach_lo, reach_hi, whole_grid, AreBoxesApart, IsBox, IsFarLine, IsReachBox}
use Rattle.rule_match.specs.declared.out_of_reach.TheConstants.{WIDTH}
use Rattle.rule_match.proofs.Gathered.{same_ends}

-- ---- apart from the box, apart from the reach
-- what comes before a number cut off at the grid, and is not off the grid, comes before the number itself
before : (a z cut : ℤ) → cut ≡ int_max z (neg_ℤ GRID) → neg_ℤ GRID ≤ℤ a → a <ℤ cut → a <ℤ z
before a z cut e h l = omega (arith, ints, clamps)

after : (a z cut : ℤ) → cut ≡ int_min z GRID → a ≤ℤ GRID → cut <ℤ a → z <ℤ a
after a z cut e h l = omega (arith, ints, clamps)

widening_positive : (n : ℕ) (f : LocalFrame) → IsFrame f → pos 1 ≤ℤ widening n f
widening_positive n f k = omega (arith, ints, nn_mul (pos 2 *ℤ pos n) f.h (omega (arith, ints)) (omega (arith, ints, (frame_bounds f k).high.least)))

is_box : (n : ℕ) (f : LocalFrame) → IsFrame f → IsBox (reach_lo n f) (reach_hi n f)
is_box n f k = let w = widening_positive n f k in record { columns = level f.p1.x (widening n f) w; rows = level f.p1.y (widening n f) w }
  where
    level : (x w : ℤ) → pos 1 ≤ℤ w → (x -ℤ w) ≤ℤ (x +ℤ w)
    level x w l = omega (arith, ints)

pub far_by_box : (sizes : SizeField) (st : State) (n : ℕ) (line : ℕ × ℕ × ℕ) (box area : Bounds) → Contains st.front line → IsReachBox sizes st.points n line.1 line.2 box → DoBoundsMeet area whole_grid
    → AreBoxesApart box.lo box.hi area.lo area.hi → IsFarLine sizes st n area.lo area.hi line.0
far_by_box sizes st n line box area on r m apart = record {
  line = line;
  on_front = on;
  numbered = refl;
  frame = r.frame;
  is_frame = r.is_frame;
  framed = r.framed;
  box = is_box n r.frame r.is_frame;
  apart = by apart;
}
  where
    by : AreBoxesApart box.lo box.hi area.lo area.hi → AreBoxesApart (reach_lo n r.frame) (reach_hi n r.frame) area.lo area.hi
    by (inl h) = inl (before area.hi.x (reach_lo n r.frame).x box.lo.x r.left m.second_column h)
    by (inr (inl h)) = inr (inl (after area.lo.x (reach_hi n r.frame).x box.hi.x r.right m.first_column h))
    by (inr (inr (inl h))) = inr (inr (inl (before area.hi.y (reach_lo n r.frame).y box.lo.y r.below m.second_row h)))
    by (inr (inr (inr h))) = inr (inr (inr (after area.lo.y (reach_hi n r.frame).y box.hi.y r.above m.first_row h)))

-- ---- what the code computes
-- a height is at least 1, so each number from the grid's bound on goes as far as the grid's width
capped : (n : ℕ) (h : ℤ) → pos 1 ≤ℤ h → int_min (pos 2 *ℤ pos (min n (unsigned_abs GRID)) *ℤ h +ℤ pos 1) WIDTH ≡ int_min (pos 2 *ℤ pos n *ℤ h +ℤ pos 1) WIDTH
capped n h l = by (compared n (unsigned_abs GRID))
  where
    compared : (a b : ℕ) → (a ≤ b) ⊎ (b ≤ a)
    compared a b = grind arith

    least : (a b : ℕ) → a ≤ b → min a b ≡ a
    least a b k = omega (arith, k)

    other : (a b : ℕ) → b ≤ a → min a b ≡ b
    other a b k = omega (arith, k)

    grows : (m : ℕ) → unsigned_abs GRID ≤ m → WIDTH ≤ℤ (pos 2 *ℤ pos m *ℤ h +ℤ pos 1)
    grows m k = omega (arith, ints, k, nn_mul (pos 2 *ℤ pos m) (h -ℤ pos 1) (omega (arith, ints)) (omega (arith, ints, l)), ring (pos m ∷ h ∷ []) (num (pos 2) ⊗ var 0 ⊗ (var 1 ⊖ num (pos 1))) (num (pos 2) ⊗ var 0 ⊗ var 1 ⊖ num (pos 2) ⊗ var 0) refl)

    width : (z : ℤ) → WIDTH ≤ℤ z → int_min z WIDTH ≡ WIDTH
    width z k = omega (arith, ints, clamps)

    by : (n ≤ unsigned_abs GRID) ⊎ (unsigned_abs GRID ≤ n) → int_min (pos 2 *ℤ pos (min n (unsigned_abs GRID)) *ℤ h +ℤ pos 1) WIDTH ≡ int_min (pos 2 *ℤ pos n *ℤ h +ℤ pos 1) WIDTH
    by (inl k) = ap (λ (m : ℕ). int_min (pos 2 *ℤ pos m *ℤ h +ℤ pos 1) WIDTH) (least n (unsigned_abs GRID) k)
    by (inr k) = width (pos 2 *ℤ pos (min n (unsigned_abs GRID)) *ℤ h +ℤ pos 1) (grows (min n (unsigned_abs GRID)) (omega (arith, other n (unsigned_abs GRID) k))) ∙ sym (width (pos 2 *ℤ pos n *ℤ h +ℤ pos 1) (grows n k))

-- a number, the lesser m of it and the grid's bound, and the height of a frame
pub record IsCapped (n m : ℕ) (f : LocalFrame) (h : ℤ) : Type 0 where
  pub lesser : m ≡ min n (unsigned_abs GRID)
  pub is_frame : IsFrame f
  pub high : h ≡ f.h

abbrev pub code_product : ℕ → ℤ → ℤ
code_product m h = cast64 (pos 2 *ℤ to_z w64 m) *ℤ cast64 (cast128 h)

module _ (n m : ℕ) (f : LocalFrame) (h : ℤ) (c : IsCapped n m f h) where
  small : m ≤ unsigned_abs GRID
  small = omega (arith, c.lesser)

  height : IsHeight h
  height = subst IsHeight (sym c.high) (frame_bounds f c.is_frame).high

  within : IsWithin (WIDTH *ℤ WIDTH) (pos 2 *ℤ pos m *ℤ h)
  within = within_mul WIDTH WIDTH (pos 2 *ℤ pos m) h (record { least = omega (arith, ints, small); greatest = omega (arith, ints, small) }) (record { least = omega (arith, ints, height.least); greatest = height.greatest })

  fits : SFits w64 (pos 2 *ℤ pos m *ℤ h)
  fits = omega (arith, ints, within.least, within.greatest)

  one_more_fits : SFits w64 (pos 2 *ℤ pos m *ℤ h +ℤ pos 1)
  one_more_fits = omega (arith, ints, within.least, within.greatest)

  product_is : code_product m h ≡ pos 2 *ℤ pos m *ℤ h
  product_is =
      let fh : SFits w64 h = omega (arith, ints, height.least, height.greatest) in
      let gh : SFits w128 h = omega (arith, ints, height.least, height.greatest) in
      let fm : SFits w64 (pos 2 *ℤ pos m) = omega (arith, ints, small) in
      ap (λ (z : ℤ). cast64 (pos 2 *ℤ z) *ℤ cast64 (cast128 h)) (to_z_pos w64 m (omega (arith, small))) ∙ simp to_z-of_z

  pub height_fits : SFits w64 (cast128 h)
  height_fits =
      let gh : SFits w128 h = omega (arith, ints, height.least, height.greatest) in
      subst (λ (z : ℤ). SFits w64 z) (sym (to_z-of_z w128 h gh)) (omega (arith, ints, height.least, height.greatest))

  pub product_fits : SFits w64 (code_product m h)
  product_fits = subst (λ (z : ℤ). SFits w64 z) (sym product_is) fits

  pub sum_fits : SFits w64 (cast64 (code_product m h) +ℤ pos 1)
  sum_fits = subst (λ (z : ℤ). SFits w64 (cast64 z +ℤ pos 1)) (sym product_is) (subst (λ (z : ℤ). SFits w64 (z +ℤ pos 1)) (sym (to_z-of_z w64 (pos 2 *ℤ pos m *ℤ h) fits)) one_more_fits)

  pub steps_are : (r : ℤ) → r ≡ int_min (cast64 (cast64 (code_product m h) +ℤ pos 1)) WIDTH → cast64 r ≡ int_min (widening n f) WIDTH
  steps_are r s =
      let fp = fits in let fs = one_more_fits in
      let fr : SFits w64 (int_min (pos 2 *ℤ pos m *ℤ h +ℤ pos 1) WIDTH) = omega (arith, ints, clamps, within.least, within.greatest) in
      let cut : r ≡ int_min (pos 2 *ℤ pos m *ℤ h +ℤ pos 1) WIDTH = s ∙ ap (λ (z : ℤ). int_min (cast64 (cast64 z +ℤ pos 1)) WIDTH) product_is ∙ simp to_z-of_z in
      ap cast64 cut ∙ to_z-of_z w64 (int_min (pos 2 *ℤ pos m *ℤ h +ℤ pos 1) WIDTH) fr
      ∙ ap (λ (i : ℕ). int_min (pos 2 *ℤ pos i *ℤ h +ℤ pos 1) WIDTH) c.lesser ∙ capped n h height.least ∙ ap (λ (g : ℤ). int_min (pos 2 *ℤ pos n *ℤ g +ℤ pos 1) WIDTH) c.high

  pub within_width : (r : ℤ) → r ≡ int_min (cast64 (cast64 (code_product m h) +ℤ pos 1)) WIDTH → IsWithin WIDTH (cast64 r)
  within_width r s = let e = steps_are r s in record { least = omega (arith, ints, clamps, e, widening_positive n f c.is_frame); greatest = omega (arith, ints, clamps, e) }

-- from a place on the grid, the grid's width goes as far on the grid as each greater number
cut_low : (x w z : ℤ) → IsWithin GRID x → pos 1 ≤ℤ w → z ≡ int_max (x -ℤ int_min w WIDTH) (neg_ℤ GRID) → cast64 z ≡ int_max (x -ℤ w) (neg_ℤ GRID)
cut_low x w z on p e = let fits : SFits w64 (int_max (x -ℤ w) (neg_ℤ GRID)) = omega (arith, ints, clamps, on.least, on.greatest) in
    ap cast64 (e ∙ same) ∙ to_z-of_z w64 (int_max (x -ℤ w) (neg_ℤ GRID)) fits
  where
    same : int_max (x -ℤ int_min w WIDTH) (neg_ℤ GRID) ≡ int_max (x -ℤ w) (neg_ℤ GRID)
    same = omega (arith, ints, clamps, on.greatest)

cut_high : (x w z : ℤ) → IsWithin GRID x → pos 1 ≤ℤ w → z ≡ int_min (x +ℤ int_min w WIDTH) GRID → cast64 z ≡ int_min (x +ℤ w) GRID
cut_high x w z on p e = let fits : SFits w64 (int_min (x +ℤ w) GRID) = omega (arith, ints, clamps, on.least, on.greatest) in
    ap cast64 (e ∙ same) ∙ to_z-of_z w64 (int_min (x +ℤ w) GRID) fits
  where
    same : int_min (x +ℤ int_min w WIDTH) GRID ≡ int_min (x +ℤ w) GRID
    same = omega (arith, ints, clamps, on.least)

-- a line of the front with its frame, and two corners by the line's start and by how far its reach goes, but at most the grid's width
pub record AreCut (sizes : SizeField) (f : FrontState) (line n : ℕ) (lo hi : Point) : Type 0 where
  pub ends : ℕ × ℕ
  pub there : line_at f.lines line ≡ Some ends
  pub frame : LocalFrame
  pub is_frame : IsFrame frame
  pub framed : IsFramed sizes f.points ends.0 ends.1 frame
  pub start : Point
  pub steps : ℤ
  pub start_is : start ≡ frame.p1
  pub steps_are : steps ≡ int_min (widening n frame) WIDTH
  pub left : lo.x ≡ int_max (start.x -ℤ steps) whole_grid.lo.x
  pub right : hi.x ≡ int_min (start.x +ℤ steps) whole_grid.hi.x
  pub below : lo.y ≡ int_max (start.y -ℤ steps) whole_grid.lo.x
  pub above : hi.y ≡ int_min (start.y +ℤ steps) whole_grid.hi.x

-- as the code keeps them
abbrev pub kept_box : Point → Point → Bounds
kept_box lo hi = record { lo = record { x = cast64 lo.x; y = cast64 lo.y }; hi = record { x = cast64 hi.x; y = cast64 hi.y } }

pub reach_box_is : (sizes : SizeField) (f : FrontState) (line n : ℕ) (lo hi : Point) → AreCut sizes f line n lo hi
    → (other : ℕ × ℕ) → line_at f.lines line ≡ Some other → IsReachBox sizes f.points n other.0 other.1 (kept_box lo hi)
reach_box_is sizes f line n lo hi c other o = subst (λ (s : ℕ × ℕ). IsReachBox sizes f.points n s.0 s.1 (kept_box lo hi)) (same_ends c.ends other (sym c.there ∙ o)) (record {
  frame = c.frame;
  is_frame = c.is_frame;
  framed = c.framed;
  left = cut_low c.frame.p1.x w lo.x on.x_within positive (c.left ∙ ap (λ (z : ℤ). int_max z (neg_ℤ GRID)) (less (ap (λ (p : Point). p.x) c.start_is)));
  right = cut_high c.frame.p1.x w hi.x on.x_within positive (c.right ∙ ap (λ (z : ℤ). int_min z GRID) (more (ap (λ (p : Point). p.x) c.start_is)));
  below = cut_low c.frame.p1.y w lo.y on.y_within positive (c.below ∙ ap (λ (z : ℤ). int_max z (neg_ℤ GRID)) (less (ap (λ (p : Point). p.y) c.start_is)));
  above = cut_high c.frame.p1.y w hi.y on.y_within positive (c.above ∙ ap (λ (z : ℤ). int_min z GRID) (more (ap (λ (p : Point). p.y) c.start_is)));
})
  where
    w : ℤ
    w = widening n c.frame

    positive : pos 1 ≤ℤ w
    positive = widening_positive n c.frame c.is_frame

    on : IsOnGrid c.frame.p1
    on = (frame_bounds c.frame c.is_frame).start_on

    less : {a b : ℤ} → a ≡ b → a -ℤ c.steps ≡ b -ℤ int_min w WIDTH
    less e = ap₂ (λ (u v : ℤ). u -ℤ v) e c.steps_are

    more : {a b : ℤ} → a ≡ b → a +ℤ c.steps ≡ b +ℤ int_min w WIDTH
    more e = ap₂ (λ (u v : ℤ). u +ℤ v) e c.steps_are
