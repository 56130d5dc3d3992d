-- The jump of the winding number across an edge a-b, for a closed list whose other edges are each parted from p and q by a line (law Jump in terms of lines).
-- At each other edge the crossings of p and q differ by the number per end of Uncrossed, at a-b by 1 more, at b-a by 1 less; and these numbers cancel along a closed list.
-- Stands on HalfOpen, ClosedSums, Uncrossed, and the identity `heights` of grid_geom's Lines.
use Prim.Native.Nat.{ℕ, ◌+◌}
use lib.IntN.{ℤ, pos, negsuc, ◌+ℤ◌, ◌-ℤ◌, ◌*ℤ◌}
use lib.Signed.{◌<ℤ◌, ◌≤ℤ◌, lt_z}
use mathlib.Core.Path.{◌≡◌, refl, sym, ap, ◌∙◌, subst}
use mathlib.Core.Bool.{Bool, true, false, cond}
use mathlib.Core.List.{List, [], ◌∷◌}
use mathlib.Core.Logic.{◌⊎◌, inl, inr}
use native.Mathlib.Omega.{arith}
use Rattle.std.proofs.lemmas.Int.{ints}
use Rattle.std.specs.List.{AllByRecursion}
use Rattle.grid_geom.specs.declared.Point.{Point}
use Rattle.grid_geom.specs.declared.RatPoint.{RatPoint}
use Rattle.grid_geom.specs.declared.Edge.{Edge}
use Rattle.grid_geom.specs.Plane.{orient_rat, IsRational}
use Rattle.grid_geom.specs.Line.{whole}
use Rattle.grid_geom.specs.Winding.{cross_of, cross, wind}
use Rattle.grid_geom.specs.Closed.{IsClosed}
use Rattle.grid_geom.proofs.Lines.{above, det, heights, orient_back, det_back}
use Rattle.grid_geom.proofs.Signs.{either, pos_mul, nn_mul, np_mul, nn_np_mul, pos_mul_neg, neg_mul_neg, le_cancel}
use Rattle.wind_law.specs.Chains.{edge, same_edge, times}
use Rattle.wind_law.proofs.HalfOpen.{over, cross_back, both_above, neither_above, rising_left, falling_left, rising_right, falling_right}
use Rattle.wind_law.proofs.ClosedSums.{gain, gain_closed, edge_test}
use Rattle.wind_law.proofs.Uncrossed.{share, cross_apart, under_both, tops, IsPartedByLine}

-- p is strictly left and q strictly right of a-b, and a is strictly right and b strictly left of p-q
pub record IsCrossed (p q : RatPoint) (a b : Point) : Type 0 where
  pub p_left : pos 0 <ℤ orient_rat a b p
  pub q_right : orient_rat a b q <ℤ pos 0
  pub a_right : det p q (whole a) <ℤ pos 0
  pub b_left : pos 0 <ℤ det p q (whole b)

-- where f x - g y + h u - j w is 0
low_pair : (f g h j x y u w : ℤ) → f *ℤ x -ℤ g *ℤ y +ℤ h *ℤ u -ℤ j *ℤ w ≡ pos 0 → pos 0 <ℤ f → g <ℤ pos 0 → u ≡ pos 0 → pos 0 <ℤ j → pos 0 ≤ℤ w → x ≤ℤ pos 0 → y ≤ℤ pos 0 → (pos 0 ≤ℤ x) × (pos 0 ≤ℤ y)
low_pair f g h j x y u w e hf hg eu hj hw hx hy = (
  elim (either (pos 0) x) [ inl n ↦ n | inr n ↦ absurd (omega (arith, ints, np_mul g y (omega (arith, ints)) hy, nn_mul j w (omega (arith, ints)) hw, pos_mul_neg f x hf n, gone)) ],
  elim (either (pos 0) y) [ inl n ↦ n | inr n ↦ absurd (omega (arith, ints, neg_mul_neg g y hg n, nn_mul j w (omega (arith, ints)) hw, nn_np_mul f x (omega (arith, ints)) hx, gone)) ],
)
  where
    gone : h *ℤ u ≡ pos 0
    gone = ap (λ (z : ℤ). h *ℤ z) eu ∙ times_zero h
      where
        times_zero : (h : ℤ) → h *ℤ pos 0 ≡ pos 0
        times_zero h = omega (arith, ints)

flat_turn : (f g h j : ℤ) → f ≡ pos 0 → g ≡ pos 0 → pos 0 <ℤ (h *ℤ f -ℤ g *ℤ j) → ⊥
flat_turn f g h j e i l = omega (arith, ints, subst (λ (z : ℤ). pos 0 <ℤ (h *ℤ pos 0 -ℤ z *ℤ j)) i (subst (λ (z : ℤ). pos 0 <ℤ (h *ℤ z -ℤ g *ℤ j)) e l))

-- p is not higher than q: not both of a and b are as low as p
not_both_low : (p q : RatPoint) (a b : Point) → pos 0 <ℤ p.k → IsCrossed p q a b → pos 0 ≤ℤ above p q → (a.y *ℤ p.k) ≤ℤ p.y → (b.y *ℤ p.k) ≤ℤ p.y → ⊥
not_both_low p q a b kp c h i j = flat_turn (p.y -ℤ a.y *ℤ p.k) (b.y -ℤ a.y) (b.x -ℤ a.x) (p.x -ℤ a.x *ℤ p.k)
    (omega (arith, ints, levels.0)) (omega (arith, ints, le_cancel a.y b.y p.k kp (omega (arith, ints, levels.1)), le_cancel b.y a.y p.k kp (omega (arith, ints, levels.0)))) c.p_left
  where
    levels : (pos 0 ≤ℤ above p (whole a)) × (pos 0 ≤ℤ above p (whole b))
    levels = low_pair (det p q (whole b)) (det p q (whole a)) (orient_rat a b q) (orient_rat a b p) (above p (whole a)) (above p (whole b)) (above p p) (above p q)
        (heights p q p a b) c.b_left c.a_right (omega (arith, ints)) c.p_left h (omega (arith, ints)) (omega (arith, ints))

high_pair : (f g h j x y u w : ℤ) → f *ℤ x -ℤ g *ℤ y +ℤ h *ℤ u -ℤ j *ℤ w ≡ pos 0 → pos 0 <ℤ f → g <ℤ pos 0 → h <ℤ pos 0 → u ≤ℤ pos 0 → w ≡ pos 0 → pos 0 <ℤ x → pos 0 <ℤ y → ⊥
high_pair f g h j x y u w e hf hg hh hu ew hx hy = omega (arith, ints, pos_mul f x hf hx, pos_mul_neg y g hy hg, np_mul h u (omega (arith, ints)) hu, ap (λ (z : ℤ). j *ℤ z) ew)

-- nor are both higher than q
not_both_high : (p q : RatPoint) (a b : Point) → pos 0 <ℤ p.k → IsCrossed p q a b → pos 0 ≤ℤ above p q → q.y <ℤ (a.y *ℤ q.k) → q.y <ℤ (b.y *ℤ q.k) → ⊥
not_both_high p q a b kp c h i j = high_pair (det p q (whole b)) (det p q (whole a)) (orient_rat a b q) (orient_rat a b p) (above q (whole a)) (above q (whole b)) (above q p) (above q q)
    (heights p q q a b) c.b_left c.a_right c.q_right (omega (arith, ints)) (omega (arith, ints)) (omega (arith, ints)) (omega (arith, ints))

-- ---- the crossings at the edge itself
under : (u w y o : ℤ) → o <ℤ pos 0 → u ≤ℤ y → cross_of u w y o ≡ pos 0
under u w y o h i = elim (either w y) [ inl j ↦ neither_above u w y o i j | inr j ↦ rising_right u w y o h i j ]

over_left : (u w y o : ℤ) → pos 0 <ℤ o → y <ℤ u → cross_of u w y o ≡ pos 0
over_left u w y o h i = elim (either w y) [ inl j ↦ falling_left u w y o h j i | inr j ↦ both_above u w y o i j ]

no_share : (o x : ℤ) → pos 0 <ℤ o → cond (lt_z o (pos 0)) x (pos 0) ≡ pos 0
no_share o x h = grind (arith, ints)

full_share : (o x : ℤ) → o <ℤ pos 0 → cond (lt_z o (pos 0)) x (pos 0) ≡ x
full_share o x h = grind (arith, ints)

top_yes : (y u : ℤ) → y <ℤ u → over y u ≡ pos 1
top_yes y u h = grind (arith, ints)

top_no : (y u : ℤ) → u ≤ℤ y → over y u ≡ pos 0
top_no y u h = grind (arith, ints)

summed : (c d sa sb ta tb : ℤ) → sb ≡ pos 0 → sa ≡ ta -ℤ tb → c -ℤ d ≡ pos 1 -ℤ (ta -ℤ tb) → c -ℤ d ≡ pos 1 +ℤ (sb -ℤ sa)
summed c d sa sb ta tb e f g = omega (arith, ints)

three_parts : (c d ta tb : ℤ) → ((c ≡ pos 1) × (d ≡ pos 0) × (ta ≡ pos 0) × (tb ≡ pos 0)) ⊎ (((c ≡ pos 0) × (d ≡ pos 0) × (ta ≡ pos 1) × (tb ≡ pos 0)) ⊎ ((c ≡ pos 0) × (d ≡ negsuc 0) × (ta ≡ pos 1) × (tb ≡ pos 1))) → c -ℤ d ≡ pos 1 -ℤ (ta -ℤ tb)
three_parts c d ta tb h = omega (arith, ints)

higher_too : (p q : RatPoint) (v : Point) → pos 0 <ℤ p.k → pos 0 <ℤ q.k → pos 0 ≤ℤ above p q → q.y <ℤ (v.y *ℤ q.k) → p.y <ℤ (v.y *ℤ p.k)
higher_too p q v kp kq h i = elim (either (v.y *ℤ p.k) p.y) [ inl n ↦ absurd (omega (arith, ints, i, under_both p q v kp kq h n)) | inr n ↦ n ]

cross_crossed : (p q : RatPoint) (a b : Point) → IsRational p → IsRational q → IsCrossed p q a b → pos 0 ≤ℤ above p q → cross p (edge a b) -ℤ cross q (edge a b) ≡ pos 1 -ℤ (tops p a -ℤ tops q a)
cross_crossed p q a b kp kq c h = elim (either (a.y *ℤ p.k) p.y) [
  | inl l ↦ elim (either (b.y *ℤ p.k) p.y) [
    | inl m ↦ absurd (not_both_low p q a b kp.positive c h l m)
    | inr m ↦ three_parts (cross p (edge a b)) (cross q (edge a b)) (tops p a) (tops q a) (inl (
      rising_left (a.y *ℤ p.k) (b.y *ℤ p.k) p.y (orient_rat a b p) c.p_left l m,
      under (a.y *ℤ q.k) (b.y *ℤ q.k) q.y (orient_rat a b q) c.q_right (under_both p q a kp.positive kq.positive h l),
      top_no p.y (a.y *ℤ p.k) l,
      top_no q.y (a.y *ℤ q.k) (under_both p q a kp.positive kq.positive h l),
    ))
  ]
  | inr l ↦ elim (either (a.y *ℤ q.k) q.y) [
    | inl m ↦ three_parts (cross p (edge a b)) (cross q (edge a b)) (tops p a) (tops q a) (inr (inl (
      over_left (a.y *ℤ p.k) (b.y *ℤ p.k) p.y (orient_rat a b p) c.p_left l,
      under (a.y *ℤ q.k) (b.y *ℤ q.k) q.y (orient_rat a b q) c.q_right m,
      top_yes p.y (a.y *ℤ p.k) l,
      top_no q.y (a.y *ℤ q.k) m,
    )))
    | inr m ↦ elim (either (b.y *ℤ q.k) q.y) [
      | inr n ↦ absurd (not_both_high p q a b kp.positive c h m n)
      | inl n ↦ three_parts (cross p (edge a b)) (cross q (edge a b)) (tops p a) (tops q a) (inr (inr (
        over_left (a.y *ℤ p.k) (b.y *ℤ p.k) p.y (orient_rat a b p) c.p_left l,
        falling_right (a.y *ℤ q.k) (b.y *ℤ q.k) q.y (orient_rat a b q) c.q_right n m,
        top_yes p.y (a.y *ℤ p.k) l,
        top_yes q.y (a.y *ℤ q.k) m,
      )))
    ]
  ]
]

pub cross_jump : (p q : RatPoint) (a b : Point) → IsRational p → IsRational q → IsCrossed p q a b → pos 0 ≤ℤ above p q → cross p (edge a b) -ℤ cross q (edge a b) ≡ pos 1 +ℤ (share p q b -ℤ share p q a)
cross_jump p q a b kp kq c h = summed (cross p (edge a b)) (cross q (edge a b)) (share p q a) (share p q b) (tops p a) (tops q a)
    (no_share (det p q (whole b)) (tops p b -ℤ tops q b) c.b_left) (full_share (det p q (whole a)) (tops p a -ℤ tops q a) c.a_right) (cross_crossed p q a b kp kq c h)

back_jump : (c d c' d' sa sb : ℤ) → c' ≡ pos 0 -ℤ c → d' ≡ pos 0 -ℤ d → c -ℤ d ≡ pos 1 +ℤ (sb -ℤ sa) → c' -ℤ d' ≡ (pos 0 -ℤ pos 1) +ℤ (sa -ℤ sb)
back_jump c d c' d' sa sb e f g = omega (arith, ints)

pub cross_jump_back : (p q : RatPoint) (a b : Point) → IsRational p → IsRational q → IsCrossed p q a b → pos 0 ≤ℤ above p q → cross p (edge b a) -ℤ cross q (edge b a) ≡ (pos 0 -ℤ pos 1) +ℤ (share p q a -ℤ share p q b)
cross_jump_back p q a b kp kq c h = back_jump (cross p (edge a b)) (cross q (edge a b)) (cross p (edge b a)) (cross q (edge b a)) (share p q a) (share p q b)
    (cross_back p a b) (cross_back q a b) (cross_jump p q a b kp kq c h)

-- ---- a closed list
pub record IsElsewhere (p q : RatPoint) (a b : Point) (e : Edge) : Type 0 where
  pub apart : same_edge e (edge a b) ≡ false → same_edge e (edge b a) ≡ false → IsPartedByLine p q e

not_both : (a b : Point) (e : Edge) → ¬ (a ≡ b) → same_edge e (edge a b) ≡ true → same_edge e (edge b a) ≡ true → ⊥
not_both a b e n h j = n (ap (λ (f : Edge). f.a) (sym (edge_test.sound e (edge a b) h) ∙ edge_test.sound e (edge b a) j))

one_edge : (p q : RatPoint) (a b : Point) (e : Edge) → IsRational p → IsRational q → ¬ (a ≡ b) → IsCrossed p q a b → pos 0 ≤ℤ above p q → IsElsewhere p q a b e
    → (s t : Bool) → same_edge e (edge a b) ≡ s → same_edge e (edge b a) ≡ t → cross p e -ℤ cross q e ≡ (pos (cond s 1 0) -ℤ pos (cond t 1 0)) +ℤ (share p q e.b -ℤ share p q e.a)
one_edge p q a b e kp kq n c h x true true i j = absurd (not_both a b e n i j)
one_edge p q a b e kp kq n c h x true false i j = subst (λ (e : Edge). cross p e -ℤ cross q e ≡ (pos 1 -ℤ pos 0) +ℤ (share p q e.b -ℤ share p q e.a)) (sym (edge_test.sound e (edge a b) i)) (cross_jump p q a b kp kq c h)
one_edge p q a b e kp kq n c h x false true i j = subst (λ (e : Edge). cross p e -ℤ cross q e ≡ (pos 0 -ℤ pos 1) +ℤ (share p q e.b -ℤ share p q e.a)) (sym (edge_test.sound e (edge b a) j)) (cross_jump_back p q a b kp kq c h)
one_edge p q a b e kp kq n c h x false false i j = plain (cross p e -ℤ cross q e) (share p q e.b -ℤ share p q e.a) (cross_apart (x.apart i j).line p q e (x.apart i j).start_right (x.apart i j).end_right (x.apart i j).p_left (x.apart i j).q_left kp.positive kq.positive h)
  where
    plain : (c s : ℤ) → c ≡ s → c ≡ (pos 0 -ℤ pos 0) +ℤ s
    plain c s e = omega (arith, ints)

joined : (c d w x : ℤ) (u t m n : ℕ) (g l : ℤ) → c -ℤ d ≡ (pos u -ℤ pos t) +ℤ g → w -ℤ x ≡ (pos m -ℤ pos n) +ℤ l → (c +ℤ w) -ℤ (d +ℤ x) ≡ (pos (u + m) -ℤ pos (t + n)) +ℤ (g +ℤ l)
joined c d w x u t m n g l e f = omega (arith, ints)

wind_jumps : (p q : RatPoint) (a b : Point) (es : List Edge) → IsRational p → IsRational q → ¬ (a ≡ b) → IsCrossed p q a b → pos 0 ≤ℤ above p q → AllByRecursion (IsElsewhere p q a b) es
    → wind p es -ℤ wind q es ≡ (pos (times (edge a b) es) -ℤ pos (times (edge b a) es)) +ℤ gain (share p q) es
wind_jumps p q a b [] kp kq n c h x = refl
wind_jumps p q a b (e ∷ es) kp kq n c h x = joined (cross p e) (cross q e) (wind p es) (wind q es) (cond (same_edge e (edge a b)) 1 0) (cond (same_edge e (edge b a)) 1 0) (times (edge a b) es) (times (edge b a) es) (share p q e.b -ℤ share p q e.a) (gain (share p q) es)
    (one_edge p q a b e kp kq n c h x.0 (same_edge e (edge a b)) (same_edge e (edge b a)) refl refl) (wind_jumps p q a b es kp kq n c h x.1)

jump_up : (p q : RatPoint) (a b : Point) (es : List Edge) → IsClosed es → IsRational p → IsRational q → ¬ (a ≡ b) → IsCrossed p q a b → pos 0 ≤ℤ above p q → AllByRecursion (IsElsewhere p q a b) es
    → wind p es -ℤ wind q es ≡ pos (times (edge a b) es) -ℤ pos (times (edge b a) es)
jump_up p q a b es cl kp kq n c h x = ends (wind p es -ℤ wind q es) (pos (times (edge a b) es) -ℤ pos (times (edge b a) es)) (gain (share p q) es) (wind_jumps p q a b es kp kq n c h x) (gain_closed (share p q) es cl)
  where
    ends : (w u g : ℤ) → w ≡ u +ℤ g → g ≡ pos 0 → w ≡ u
    ends w u g e f = omega (arith, ints)

turned : (p q : RatPoint) (a b : Point) (es : List Edge) → AllByRecursion (IsElsewhere p q a b) es → AllByRecursion (IsElsewhere q p b a) es
turned p q a b [] x = tt
turned p q a b (e ∷ es) x = (record { apart = λ i j. let h : IsPartedByLine p q e = x.0.apart j i in record { line = h.line; start_right = h.start_right; end_right = h.end_right; p_left = h.q_left; q_left = h.p_left } }, turned p q a b es x.1)

crossed_back : (p q : RatPoint) (a b : Point) → IsCrossed p q a b → IsCrossed q p b a
crossed_back p q a b c = record {
  p_left = omega (arith, ints, c.q_right, orient_back a b q);
  q_right = omega (arith, ints, c.p_left, orient_back a b p);
  a_right = omega (arith, ints, c.b_left, det_back p q (whole b));
  b_left = omega (arith, ints, c.a_right, det_back p q (whole a));
}

pub jump : (p q : RatPoint) (a b : Point) (es : List Edge) → IsClosed es → IsRational p → IsRational q → ¬ (a ≡ b) → IsCrossed p q a b → AllByRecursion (IsElsewhere p q a b) es
    → wind p es -ℤ wind q es ≡ pos (times (edge a b) es) -ℤ pos (times (edge b a) es)
jump p q a b es cl kp kq n c x = elim (either (pos 0) (above p q)) [
  | inl h ↦ jump_up p q a b es cl kp kq n c h x
  | inr h ↦ reversed (wind p es) (wind q es) (pos (times (edge a b) es)) (pos (times (edge b a) es)) (jump_up q p b a es cl kq kp (λ e. n (sym e)) (crossed_back p q a b c) (omega (arith, ints)) (turned p q a b es x))
]
  where
    reversed : (w x u t : ℤ) → x -ℤ w ≡ t -ℤ u → w -ℤ x ≡ u -ℤ t
    reversed w x u t e = omega (arith, ints)
