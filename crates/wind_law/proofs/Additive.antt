-- Law Additive: winding numbers add up along a list, an edge and its reverse give 0, and an edge that is cut at a point of it gives what its parts give.
-- Stands on HalfOpen. Of a cut edge that rises, each part has the point on the side where the whole edge has it, at the heights of that part.
use lib.IntN.{ℤ, pos, ◌+ℤ◌, ◌-ℤ◌, ◌*ℤ◌}
use lib.Signed.{◌<ℤ◌, ◌≤ℤ◌}
use mathlib.Core.Path.{◌≡◌, sym, ap, ◌∙◌}
use mathlib.Core.List.{List, [], ◌∷◌, ◌++◌}
use mathlib.Core.Logic.{inl, inr}
use native.Mathlib.Omega.{arith}
use Rattle.std.proofs.lemmas.Int.{ints, clamps}
use Rattle.grid_geom.specs.declared.Point.{Point}
use Rattle.grid_geom.specs.declared.RatPoint.{RatPoint}
use Rattle.grid_geom.specs.declared.Edge.{Edge}
use Rattle.grid_geom.specs.Plane.{orient, orient_rat, IsRational}
use Rattle.grid_geom.specs.Sides.{IsOnOpen}
use Rattle.grid_geom.specs.Winding.{cross_of, cross, wind}
use Rattle.grid_geom.proofs.Lines.{cut_start, cut_end, orient_turned}
use Rattle.grid_geom.proofs.Signs.{either, ordered, pos_mul, lt_cancel, nn_np_mul, pos_factor, le_mul, le_cancel}
use Rattle.wind_law.specs.Chains.{edge}
use Rattle.wind_law.proofs.HalfOpen.{cross_back, both_above, neither_above, rising_alike, level_edge}

pub wind_append : (q : RatPoint) (es fs : List Edge) → wind q (es ++ fs) ≡ wind q es +ℤ wind q fs
wind_append q [] fs = none (wind q fs)
  where
    none : (w : ℤ) → w ≡ pos 0 +ℤ w
    none w = omega (arith, ints)
wind_append q (e ∷ es) fs = more (cross q e) (wind q es) (wind q fs) (wind q (es ++ fs)) (wind_append q es fs)
  where
    more : (c w x n : ℤ) → n ≡ w +ℤ x → c +ℤ n ≡ (c +ℤ w) +ℤ x
    more c w x n e = omega (arith, ints)

sum_r : (a b c : ℤ) → a ≡ pos 0 → b ≡ c → a +ℤ b ≡ c
sum_r a b c e f = omega (arith, ints)

sum_l : (a b c : ℤ) → a ≡ c → b ≡ pos 0 → a +ℤ b ≡ c
sum_l a b c e f = omega (arith, ints)

lt_le : (a b c : ℤ) → a <ℤ b → b ≤ℤ c → a <ℤ c
lt_le a b c h j = omega (arith, ints)

le_le : (a b c : ℤ) → a ≤ℤ b → b ≤ℤ c → a ≤ℤ c
le_le a b c h j = omega (arith, ints)

-- a is lower than b, and z is between
cut_up : (u w z y o n m : ℤ) → u ≤ℤ z → z ≤ℤ w → (u ≤ℤ y → y <ℤ z → pos 0 <ℤ o → pos 0 <ℤ n) → (u ≤ℤ y → y <ℤ z → o ≤ℤ pos 0 → n ≤ℤ pos 0)
    → (z ≤ℤ y → y <ℤ w → pos 0 <ℤ o → pos 0 <ℤ m) → (z ≤ℤ y → y <ℤ w → o ≤ℤ pos 0 → m ≤ℤ pos 0) → cross_of u z y n +ℤ cross_of z w y m ≡ cross_of u w y o
cut_up u w z y o n m h j f g f' g' = elim (either u y) [
  | inr a ↦ sum_r _ _ _ (both_above u z y n a (lt_le y u z a h)) (both_above z w y m (lt_le y u z a h) (lt_le y u w a (le_le u z w h j)) ∙ sym (both_above u w y o a (lt_le y u w a (le_le u z w h j))))
  | inl a ↦ elim (either w y) [
    | inl b ↦ sum_r _ _ _ (neither_above u z y n a (le_le z w y j b)) (neither_above z w y m (le_le z w y j b) b ∙ sym (neither_above u w y o a b))
    | inr b ↦ elim (either z y) [
      | inl c ↦ sum_r _ _ _ (neither_above u z y n a c) (rising_alike u w z w y o m a b c b (f' c b) (g' c b))
      | inr c ↦ sum_l _ _ _ (rising_alike u w u z y o n a b a c (f a c) (g a c)) (both_above z w y m c b)
    ]
  ]
]

-- the sign of a part
part_pos : (n c d o w : ℤ) → n *ℤ c ≡ d *ℤ o -ℤ w *ℤ pos 0 → pos 0 <ℤ c → pos 0 <ℤ d → pos 0 <ℤ o → pos 0 <ℤ n
part_pos n c d o w e hc hd ho = pos_factor c n (omega (arith, ints, pos_mul d o hd ho)) (omega (arith, ints))

part_neg : (n c d o w : ℤ) → n *ℤ c ≡ d *ℤ o -ℤ w *ℤ pos 0 → pos 0 <ℤ c → pos 0 <ℤ d → o ≤ℤ pos 0 → n ≤ℤ pos 0
part_neg n c d o w e hc hd ho = le_cancel n (pos 0) c hc (omega (arith, ints, nn_np_mul d o (omega (arith, ints)) ho))

record IsBetween (a b m : Point) : Type 0 where
  straight : orient a b m ≡ pos 0
  low : a.y ≤ℤ m.y
  high : m.y ≤ℤ b.y

cut_rising : (q : RatPoint) (a b m : Point) → IsRational q → a.y <ℤ b.y → IsBetween a b m → cross q (edge a m) +ℤ cross q (edge m b) ≡ cross q (edge a b)
cut_rising q a b m kq l h = cut_up (a.y *ℤ q.k) (b.y *ℤ q.k) (m.y *ℤ q.k) q.y (orient_rat a b q) (orient_rat a m q) (orient_rat m b q)
    (le_mul a.y m.y q.k kq.positive h.low) (le_mul m.y b.y q.k kq.positive h.high)
    (λ i j. part_pos (orient_rat a m q) (b.y -ℤ a.y) (m.y -ℤ a.y) (orient_rat a b q) (q.y -ℤ a.y *ℤ q.k) starts rise (less a.y m.y q.k q.y kq.positive i j))
    (λ i j. part_neg (orient_rat a m q) (b.y -ℤ a.y) (m.y -ℤ a.y) (orient_rat a b q) (q.y -ℤ a.y *ℤ q.k) starts rise (less a.y m.y q.k q.y kq.positive i j))
    (λ i j. part_pos (orient_rat m b q) (b.y -ℤ a.y) (b.y -ℤ m.y) (orient_rat a b q) (b.y *ℤ q.k -ℤ q.y) ends rise (less m.y b.y q.k q.y kq.positive i j))
    (λ i j. part_neg (orient_rat m b q) (b.y -ℤ a.y) (b.y -ℤ m.y) (orient_rat a b q) (b.y *ℤ q.k -ℤ q.y) ends rise (less m.y b.y q.k q.y kq.positive i j))
  where
    rise : pos 0 <ℤ (b.y -ℤ a.y)
    rise = omega (arith, ints)

    less : (u w k y : ℤ) → pos 0 <ℤ k → (u *ℤ k) ≤ℤ y → y <ℤ (w *ℤ k) → pos 0 <ℤ (w -ℤ u)
    less u w k y kp i j = omega (arith, ints, lt_cancel u w k kp (omega (arith, ints)))

    starts : orient_rat a m q *ℤ (b.y -ℤ a.y) ≡ (m.y -ℤ a.y) *ℤ orient_rat a b q -ℤ (q.y -ℤ a.y *ℤ q.k) *ℤ pos 0
    starts = cut_start a b m q ∙ ap (λ (z : ℤ). (m.y -ℤ a.y) *ℤ orient_rat a b q -ℤ (q.y -ℤ a.y *ℤ q.k) *ℤ z) h.straight

    flat : (x u w : ℤ) → x +ℤ u *ℤ pos 0 ≡ x -ℤ w *ℤ pos 0
    flat x u w = omega (arith, ints)

    ends : orient_rat m b q *ℤ (b.y -ℤ a.y) ≡ (b.y -ℤ m.y) *ℤ orient_rat a b q -ℤ (b.y *ℤ q.k -ℤ q.y) *ℤ pos 0
    ends = cut_end a b m q ∙ ap (λ (z : ℤ). (b.y -ℤ m.y) *ℤ orient_rat a b q +ℤ (q.y -ℤ b.y *ℤ q.k) *ℤ z) h.straight ∙ flat ((b.y -ℤ m.y) *ℤ orient_rat a b q) (q.y -ℤ b.y *ℤ q.k) (b.y *ℤ q.k -ℤ q.y)

cross_level : (q : RatPoint) (a b : Point) → b.y ≡ a.y → cross q (edge a b) ≡ pos 0
cross_level q a b e = level_edge (a.y *ℤ q.k) (b.y *ℤ q.k) q.y (orient_rat a b q) (ap (λ (z : ℤ). z *ℤ q.k) e)

back_sum : (c d e c' d' e' : ℤ) → c' +ℤ d' ≡ e' → c' ≡ pos 0 -ℤ d → d' ≡ pos 0 -ℤ c → e' ≡ pos 0 -ℤ e → c +ℤ d ≡ e
back_sum c d e c' d' e' s f g h = omega (arith, ints)

cut_edges : (q : RatPoint) (a b m : Point) → IsRational q → IsOnOpen m a b → cross q (edge a m) +ℤ cross q (edge m b) ≡ cross q (edge a b)
cut_edges q a b m kq h = elim (ordered a.y b.y) [
  | inl l ↦ cut_rising q a b m kq l (record { straight = h.straight; low = omega (arith, ints, clamps, h.above_least); high = omega (arith, ints, clamps, h.below_greatest) })
  | inr r ↦ elim r [
    | inl e ↦ sum_r _ _ _ (cross_level q a m (omega (arith, ints, clamps, h.above_least, h.below_greatest))) (cross_level q m b (omega (arith, ints, clamps, h.above_least, h.below_greatest)) ∙ sym (cross_level q a b (sym e)))
    | inr l ↦ back_sum (cross q (edge a m)) (cross q (edge m b)) (cross q (edge a b)) (cross q (edge b m)) (cross q (edge m a)) (cross q (edge b a))
        (cut_rising q b a m kq l (record { straight = orient_turned a b m h.straight; low = omega (arith, ints, clamps, h.above_least); high = omega (arith, ints, clamps, h.below_greatest) }))
        (cross_back q m b) (cross_back q a m) (cross_back q a b)
  ]
]

pub wind_cut : (q : RatPoint) (a b m : Point) → IsRational q → IsOnOpen m a b → wind q (edge a m ∷ edge m b ∷ []) ≡ wind q (edge a b ∷ [])
wind_cut q a b m kq h = ends (cross q (edge a m)) (cross q (edge m b)) (cross q (edge a b)) (cut_edges q a b m kq h)
  where
    ends : (c d e : ℤ) → c +ℤ d ≡ e → c +ℤ (d +ℤ pos 0) ≡ e +ℤ pos 0
    ends c d e s = omega (arith, ints)

pub wind_back : (q : RatPoint) (a b : Point) → wind q (edge a b ∷ edge b a ∷ []) ≡ pos 0
wind_back q a b = ends (cross q (edge a b)) (cross q (edge b a)) (cross_back q a b)
  where
    ends : (c d : ℤ) → d ≡ pos 0 -ℤ c → c +ℤ (d +ℤ pos 0) ≡ pos 0
    ends c d s = omega (arith, ints)
