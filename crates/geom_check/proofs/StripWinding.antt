-- The winding number of the chosen domains at a place of a strip, by the risers to its left.
use Rattle.std.proofs.Common.{◌≡◌, ◌≢◌, ℕ, suc, ◌+◌, ◌<◌, ◌≤◌, Bool, true, false, List, [], ◌∷◌, length, slice_index_or, All, Contains, take, drop, filter, sum_by, sym, ◌∙◌, ap, subst, refl, arith, cond, inl, inr}
use lib.IntN.{ℤ, pos, ◌+ℤ◌, ◌-ℤ◌, ◌*ℤ◌, neg_ℤ}
use lib.Signed.{◌<ℤ◌, ◌≤ℤ◌, lt_z, le_z}
use Rattle.std.proofs.lemmas.Int.{ints}
use Rattle.std.proofs.lemmas.List.Sums.{sum_by-cons, sum_by-take-drop}
use Rattle.grid_geom.specs.declared.RatPoint.{RatPoint}
use Rattle.grid_geom.specs.Plane.{orient_rat}
use Rattle.grid_geom.specs.Winding.{and}
use Rattle.grid_geom.proofs.Signs.{le_mul, ordered}
use Rattle.geom_check.specs.declared.risers.Riser.{Riser}
use Rattle.geom_check.specs.declared.risers.Passing.{Passing}
use Rattle.geom_check.specs.Risers.{passes, covers, is_left, is_beside, one_if, winding_of}
use Rattle.geom_check.specs.RiserOrder.{over, under, IsFree, IsInStrip, IsPassing, IsKey, IsClear, IsOrder, IsOffRisers, IsSound, far, west_of, east_of, rises}
use Rattle.geom_check.specs.Accepted.{IsZeroOrOne}
use Rattle.geom_check.proofs.RiserOrder.{across, ordered_sides, west_or_east, keys_ordered}
use Rattle.geom_check.proofs.Splits.{split, all_counted}
use Rattle.geom_check.proofs.RiserPlace.{side_at, tall}
use Rattle.grid_geom.proofs.Ring.{var, num, ◌⊗◌, ring}
use Rattle.grid_geom.specs.declared.TheConstants.{GRID}

-- what is true of the tests of a riser at a place of the strip
pub passing_test : (low high : ℤ) (r : Riser) → passes low high r ≡ true → IsPassing low high r
passing_test low high r e = record { from_low = first r.a.y low high r.b.y e; to_high = second r.a.y low high r.b.y e }
  where
    first : (m n o p : ℤ) → and (le_z m n) (le_z o p) ≡ true → m ≤ℤ n
    first m n o p e = grind (arith, ints)

    second : (m n o p : ℤ) → and (le_z m n) (le_z o p) ≡ true → o ≤ℤ p
    second m n o p e = grind (arith, ints)

beside : (low high : ℤ) (q : RatPoint) (r : Riser) → IsInStrip low high q → IsPassing low high r → is_beside q r ≡ true
beside low high q r s p = tests (r.a.y *ℤ q.k) (low *ℤ q.k) q.y (high *ℤ q.k) (r.b.y *ℤ q.k) (le_mul r.a.y low q.k s.rational p.from_low) s.from_low s.below_high (le_mul high r.b.y q.k s.rational p.to_high)
  where
    tests : (m n o p q : ℤ) → m ≤ℤ n → n ≤ℤ o → o <ℤ p → p ≤ℤ q → and (le_z m o) (lt_z o q) ≡ true
    tests m n o p q e f g h = grind (arith, ints)

pub not_beside : (low high : ℤ) (q : RatPoint) (r : Riser) → IsInStrip low high q → IsClear low high r → passes low high r ≡ false → is_beside q r ≡ false
not_beside low high q r s c e = elim c.a_clear [
  | inr h ↦ above (r.a.y *ℤ q.k) (high *ℤ q.k) q.y (r.b.y *ℤ q.k) (le_mul high r.a.y q.k s.rational h) s.below_high
  | inl h ↦ elim c.b_clear [
    | inl j ↦ below (r.a.y *ℤ q.k) (low *ℤ q.k) q.y (r.b.y *ℤ q.k) (le_mul r.b.y low q.k s.rational j) s.from_low
    | inr j ↦ absurd (neither r.a.y low high r.b.y h j e)
  ]
]
  where
    above : (m n o p : ℤ) → n ≤ℤ m → o <ℤ n → and (le_z m o) (lt_z o p) ≡ false
    above m n o p h j = grind (arith, ints)

    below : (m n o p : ℤ) → p ≤ℤ n → n ≤ℤ o → and (le_z m o) (lt_z o p) ≡ false
    below m n o p h j = grind (arith, ints)

    neither : (m n o p : ℤ) → m ≤ℤ n → o ≤ℤ p → and (le_z m n) (le_z o p) ≡ false → ⊥
    neither m n o p h j e = grind (arith, ints)

-- a riser counts where it passes and has q on its left
counted : (b c d : Bool) (n : ℕ) → b ≡ true → one_if (and (and b c) d) ≡ cond c (one_if d) 0
counted b true d n e = ap (λ (x : Bool). one_if (and (and x true) d)) e
counted b false d n e = ap (λ (x : Bool). one_if (and (and x false) d)) e

uncounted : (b c d : Bool) → b ≡ false → one_if (and (and b c) d) ≡ 0
uncounted b c d e = ap (λ (x : Bool). one_if (and (and x c) d)) e

pub by_passing : (low high : ℤ) (q : RatPoint) (side : Riser → Bool) (rs : List Riser) → IsInStrip low high q → All (IsClear low high) rs →
    sum_by (λ r. one_if (and (covers q r) (side r))) rs ≡ sum_by (λ r. cond (is_left q r) (one_if (side r)) 0) (filter (passes low high) rs)
by_passing low high q side [] s all = refl
by_passing low high q side (r ∷ rs) s all =
    sum_by-cons (λ r. one_if (and (covers q r) (side r))) r rs ∙ ap (λ (n : ℕ). one_if (and (covers q r) (side r)) + n) (by_passing low high q side rs s (λ i d h. all (suc i) d (omega arith)))
    ∙ by_test (passes low high r) refl ∙ ap (λ (b : Bool). sum_by (λ r. cond (is_left q r) (one_if (side r)) 0) (cond b (r ∷ filter (passes low high) rs) (filter (passes low high) rs))) refl
  where
    by_test : (b : Bool) → passes low high r ≡ b → one_if (and (covers q r) (side r)) + sum_by (λ r. cond (is_left q r) (one_if (side r)) 0) (filter (passes low high) rs)
        ≡ sum_by (λ r. cond (is_left q r) (one_if (side r)) 0) (cond (passes low high r) (r ∷ filter (passes low high) rs) (filter (passes low high) rs))
    by_test true e =
        ap (λ (n : ℕ). n + sum_by (λ r. cond (is_left q r) (one_if (side r)) 0) (filter (passes low high) rs)) (counted (is_beside q r) (is_left q r) (side r) 0 (beside low high q r s (passing_test low high r e)))
        ∙ sym (sum_by-cons (λ r. cond (is_left q r) (one_if (side r)) 0) r (filter (passes low high) rs))
        ∙ ap (λ (b : Bool). sum_by (λ r. cond (is_left q r) (one_if (side r)) 0) (cond b (r ∷ filter (passes low high) rs) (filter (passes low high) rs))) (sym e)
    by_test false e =
        ap (λ (n : ℕ). n + sum_by (λ r. cond (is_left q r) (one_if (side r)) 0) (filter (passes low high) rs)) (uncounted (is_beside q r) (is_left q r) (side r) (not_beside low high q r s (all 0 r (omega arith)) e))
        ∙ none (sum_by (λ r. cond (is_left q r) (one_if (side r)) 0) (filter (passes low high) rs))
        ∙ ap (λ (b : Bool). sum_by (λ r. cond (is_left q r) (one_if (side r)) 0) (cond b (r ∷ filter (passes low high) rs) (filter (passes low high) rs))) (sym e)
      where
        none : (m : ℕ) → 0 + m ≡ m
        none m = omega arith

-- q is on the line of none of the risers
abbrev pub IsOffAll : RatPoint → List Passing → Type 0
IsOffAll q items = All (λ p. orient_rat p.riser.a p.riser.b q ≢ pos 0) items

left_of : (o : ℤ) → lt_z (pos 0) o ≡ true → pos 0 <ℤ o
left_of o e = grind (arith, ints)

left_by : (o : ℤ) → pos 0 <ℤ o → lt_z (pos 0) o ≡ true
left_by o h = grind (arith, ints)

later_left : (low high : ℤ) (q : RatPoint) (r s : Riser) (k l : ℕ) → low <ℤ high → IsInStrip low high q → IsPassing low high r → IsPassing low high s → IsFree r s → IsKey (low +ℤ high) r k → IsKey (low +ℤ high) s l → k ≤ l →
    orient_rat s.a s.b q ≢ pos 0 → is_left q r ≡ true → is_left q s ≡ true
later_left low high q r s k l h i p o f a b m off e = elim (west_or_east (low +ℤ high) r s (across low high r h p) (across low high s h o) f) [
  | inr w ↦ absurd (keys_ordered (low +ℤ high) r s k l a b m w)
  | inl w ↦ elim (ordered (orient_rat s.a s.b q) (pos 0)) [
    | inl n ↦ absurd (ordered_sides low high q r s h i p o f w (left_of (orient_rat r.a r.b q) e) n)
    | inr t ↦ elim t [ inl z ↦ absurd (off z) | inr n ↦ left_by (orient_rat s.a s.b q) n ]
  ]
]

-- at a place of a strip, off the risers, the winding number of the chosen domains is that to the right of some first ones
pub record IsSplit (q : RatPoint) (chosen : ℕ → Bool) (rs : List Riser) (items : List Passing) : Type 0 where
  pub at : ℕ
  pub in_list : at ≤ length items
  pub winding : winding_of chosen q rs ≡ rises chosen (take at items)
  pub not_after : (i : ℕ) (d : Passing) → i < length items → is_left q (slice_index_or items i d).riser ≡ true → at ≤ i
  pub after : (i : ℕ) (d : Passing) → i < length items → is_left q (slice_index_or items i d).riser ≡ false → i < at

pub strip_winding : (low high : ℤ) (q : RatPoint) (chosen : ℕ → Bool) (rs : List Riser) (items : List Passing) → low <ℤ high → IsInStrip low high q → All (IsClear low high) rs → IsOrder low high rs items → IsOffAll q items →
    sum_by (west_of chosen) items ≡ sum_by (east_of chosen) items → IsSplit q chosen rs items
strip_winding low high q chosen rs items h i clear o off balance = record {
  at = found.0;
  in_list = found.1;
  winding = joined _ _ _ _ _ _ _ _ (side_sum (λ r. chosen r.west)) (side_sum (λ r. chosen r.east)) (sum_by-take-drop (west_of chosen) items found.0) (sum_by-take-drop (east_of chosen) items found.0) balance;
  not_after = found.3;
  after = found.4;
}
  where
    found : (j : ℕ) × (j ≤ length items) × ((g : Passing → ℕ) → sum_by (λ p. cond (is_left q p.riser) (g p) 0) items ≡ sum_by g (drop j items)) × ((i : ℕ) (d : Passing) → i < length items → is_left q (slice_index_or items i d).riser ≡ true → j ≤ i) × ((i : ℕ) (d : Passing) → i < length items → is_left q (slice_index_or items i d).riser ≡ false → i < j)
    found = split (λ p. is_left q p.riser) items (λ a b d m n e. later_left low high q (slice_index_or items a d).riser (slice_index_or items b d).riser (slice_index_or items a d).key (slice_index_or items b d).key h i
        (o.passing a d (omega arith)) (o.passing b d n) (o.free a b d m n) (o.keys a d (omega arith)) (o.keys b d n) (o.rising a b d (omega arith) n) (off b d n) e)

    side_sum : (side : Riser → Bool) → sum_by (λ r. one_if (and (covers q r) (side r))) rs ≡ sum_by (λ p. one_if (side p.riser)) (drop found.0 items)
    side_sum side = by_passing low high q side rs i clear ∙ sym (o.same (λ r. cond (is_left q r) (one_if (side r)) 0)) ∙ found.2 (λ p. one_if (side p.riser))

    joined : (w e wd ed wt et wa ea : ℕ) → w ≡ wd → e ≡ ed → wt + wd ≡ wa → et + ed ≡ ea → wa ≡ ea → pos w -ℤ pos e ≡ pos et -ℤ pos wt
    joined w e wd ed wt et wa ea f g h i j = omega (arith, ints)

-- ---- far to the left of all risers
far_left : (y : ℤ) (r : Riser) (n : ℕ) → pos n ≡ over y r → pos 0 <ℤ under r → pos 0 <ℤ orient_rat r.a r.b (far y)
far_left y r n e h = half _ _ (side_at y r (far y) (ring (y ∷ []) (num (pos 2) ⊗ var 0) (var 0 ⊗ num (pos 2)) refl)) (wide (over y r) (under r) n e h)
  where
    half : (m n : ℤ) → pos 2 *ℤ m ≡ n → pos 0 <ℤ n → pos 0 <ℤ m
    half m n e h = omega (arith, ints)

    wide : (m u : ℤ) (n : ℕ) → pos n ≡ m → pos 0 <ℤ u → pos 0 <ℤ (pos 2 *ℤ (m -ℤ GRID *ℤ u) -ℤ u *ℤ neg_ℤ (pos 2 *ℤ (GRID +ℤ pos 1)))
    wide m u n e h = omega (arith, ints)

-- the risers of a strip balance, where nothing winds round a place far to their left
pub balanced : (low high : ℤ) (chosen : ℕ → Bool) (rs : List Riser) (items : List Passing) → low <ℤ high → All (IsClear low high) rs → IsOrder low high rs items →
    winding_of chosen (far (low +ℤ high)) rs ≡ pos 0 → sum_by (west_of chosen) items ≡ sum_by (east_of chosen) items
balanced low high chosen rs items h clear o z = same _ _ _ _ (side_sum (λ r. chosen r.west)) (side_sum (λ r. chosen r.east)) z
  where
    in_strip : IsInStrip low high (far (low +ℤ high))
    in_strip = record { rational = omega (arith, ints); from_low = omega (arith, ints); below_high = omega (arith, ints) }

    side_sum : (side : Riser → Bool) → sum_by (λ r. one_if (and (covers (far (low +ℤ high)) r) (side r))) rs ≡ sum_by (λ p. one_if (side p.riser)) items
    side_sum side = by_passing low high (far (low +ℤ high)) side rs in_strip clear ∙ sym (o.same (λ r. cond (is_left (far (low +ℤ high)) r) (one_if (side r)) 0))
        ∙ all_counted (λ p. is_left (far (low +ℤ high)) p.riser) (λ p. one_if (side p.riser)) items (λ i d g. left_by _ (far_left (low +ℤ high) (slice_index_or items i d).riser (o.keys i d g).over_is (o.keys i d g).same_over (tall (low +ℤ high) (slice_index_or items i d).riser (across low high (slice_index_or items i d).riser h (o.passing i d g)))))

    same : (w e m n : ℕ) → w ≡ m → e ≡ n → pos w -ℤ pos e ≡ pos 0 → m ≡ n
    same w e m n f g z = omega (arith, ints)

-- what is off the risers of a list is off those that pass
pub off_items : (low high : ℤ) (q : RatPoint) (rs : List Riser) (items : List Passing) → IsInStrip low high q → IsOrder low high rs items → IsOffRisers q rs → IsOffAll q items
off_items low high q rs items s o off i d h = off_one (slice_index_or items i d).riser (o.among i d h) (beside low high q (slice_index_or items i d).riser s (o.passing i d h))
  where
    off_one : (r : Riser) → Contains rs r → is_beside q r ≡ true → orient_rat r.a r.b q ≢ pos 0
    off_one r c b = subst (λ (x : Riser). is_beside q x ≡ true → orient_rat x.a x.b q ≢ pos 0) c.2 (off c.0 r c.1) b

-- a strip in which the walk finds no fault
pub sound_strip : (low high : ℤ) (chosen : ℕ → Bool) (rs : List Riser) (items : List Passing) → low <ℤ high → All (IsClear low high) rs → IsOrder low high rs items → winding_of chosen (far (low +ℤ high)) rs ≡ pos 0 →
    ((i : ℕ) → i ≤ length items → IsZeroOrOne (rises chosen (take i items))) → IsSound low high chosen rs
sound_strip low high chosen rs items h clear o z sides q s off =
    let split : IsSplit q chosen rs items = strip_winding low high q chosen rs items h s clear o (off_items low high q rs items s o off) (balanced low high chosen rs items h clear o z) in
    subst (λ (n : ℤ). IsZeroOrOne n) (sym split.winding) (sides split.at split.in_list)
