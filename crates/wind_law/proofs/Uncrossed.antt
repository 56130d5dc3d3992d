-- Law Uncrossed: where a line parts each edge of a closed list from p and q, the list winds round p as often as round q.
-- The crossings of p and q at one edge differ by one number per end of the edge (`share`), of p, q and that end alone, so these differences cancel along a closed list.
-- Stands on HalfOpen and ClosedSums, and on the one identity `three` of grid_geom's Lines.
use lib.IntN.{ℤ, pos, ◌+ℤ◌, ◌-ℤ◌, ◌*ℤ◌}
use lib.Signed.{◌<ℤ◌, ◌≤ℤ◌, lt_z}
use mathlib.Core.Path.{◌≡◌, refl, sym, ap, ◌∙◌, subst}
use mathlib.Core.Bool.{cond}
use mathlib.Core.List.{List, [], ◌∷◌}
use mathlib.Core.Logic.{inl, inr}
use native.Mathlib.Omega.{arith}
use Rattle.std.proofs.lemmas.Int.{ints}
use Rattle.std.specs.List.{AllByRecursion}
use Rattle.grid_geom.specs.declared.Point.{Point}
use Rattle.grid_geom.specs.declared.RatPoint.{RatPoint}
use Rattle.grid_geom.specs.declared.Edge.{Edge}
use Rattle.grid_geom.specs.Plane.{IsRational}
use Rattle.grid_geom.specs.Line.{Line, side, whole, through}
use Rattle.grid_geom.specs.Winding.{cross_of, cross, wind}
use Rattle.grid_geom.specs.Closed.{IsClosed}
use Rattle.grid_geom.proofs.Lines.{above, above_by, det, three, orient_det, through_is, orient_whole}
use Rattle.grid_geom.proofs.Signs.{pos_mul, np_mul, nn_mul, nn_np_mul, np_nn_mul, neg_factor, nn_factor, pos_factor, np_factor, pos_mul_neg, either, lt_cancel}
use Rattle.wind_law.specs.Parting.{IsParted}
use Rattle.wind_law.proofs.HalfOpen.{over, cross_all, cross_none}
use Rattle.wind_law.proofs.ClosedSums.{gain, gain_closed}

-- ---- what the heights say of a line's value
rising_sum : (D s U t W r m : ℤ) → D *ℤ s +ℤ U *ℤ t +ℤ W *ℤ r +ℤ m ≡ pos 0 → pos 0 <ℤ D → pos 0 <ℤ s → U ≤ℤ pos 0 → t ≤ℤ pos 0 → W ≤ℤ pos 0 → r ≤ℤ pos 0 → m <ℤ pos 0
rising_sum D s U t W r m e d h u i w j = omega (arith, ints, pos_mul D s d h, np_mul U t u i, np_mul W r w j)

falling_sum : (D s U t W r m : ℤ) → D *ℤ s +ℤ U *ℤ t +ℤ W *ℤ r +ℤ m ≡ pos 0 → D <ℤ pos 0 → pos 0 <ℤ s → pos 0 ≤ℤ U → t ≤ℤ pos 0 → pos 0 ≤ℤ W → r ≤ℤ pos 0 → pos 0 <ℤ m
falling_sum D s U t W r m e d h u i w j = omega (arith, ints, pos_mul_neg s D h d, nn_np_mul U t u i, nn_np_mul W r w j)

-- where a line parts the edge from p, the sign of its first number alone says on which side of p the edge passes
rises : (l : Line) (p : RatPoint) (a b : Point) → side l (whole a) ≤ℤ pos 0 → side l (whole b) ≤ℤ pos 0 → pos 0 <ℤ side l p → pos 0 <ℤ p.k →
    (a.y *ℤ p.k) ≤ℤ p.y → p.y <ℤ (b.y *ℤ p.k) → (l.a *ℤ det (whole a) (whole b) p) <ℤ pos 0
rises l p a b ha hb hp kp i j = rising_sum (above (whole a) (whole b)) (side l p) (above (whole b) p) (side l (whole a)) (above p (whole a)) (side l (whole b)) (l.a *ℤ det (whole a) (whole b) p)
    (three l (whole a) (whole b) p) (higher a.y b.y p.y p.k kp i j) hp (omega (arith, ints)) ha (omega (arith, ints)) hb
  where
    higher : (u w y k : ℤ) → pos 0 <ℤ k → (u *ℤ k) ≤ℤ y → y <ℤ (w *ℤ k) → pos 0 <ℤ (pos 1 *ℤ w -ℤ pos 1 *ℤ u)
    higher u w y k kp i j = omega (arith, ints, lt_cancel u w k kp (omega (arith, ints)))

falls : (l : Line) (p : RatPoint) (a b : Point) → side l (whole a) ≤ℤ pos 0 → side l (whole b) ≤ℤ pos 0 → pos 0 <ℤ side l p → pos 0 <ℤ p.k →
    (b.y *ℤ p.k) ≤ℤ p.y → p.y <ℤ (a.y *ℤ p.k) → pos 0 <ℤ (l.a *ℤ det (whole a) (whole b) p)
falls l p a b ha hb hp kp i j = falling_sum (above (whole a) (whole b)) (side l p) (above (whole b) p) (side l (whole a)) (above p (whole a)) (side l (whole b)) (l.a *ℤ det (whole a) (whole b) p)
    (three l (whole a) (whole b) p) (lower a.y b.y p.y p.k kp i j) hp (omega (arith, ints)) ha (omega (arith, ints)) hb
  where
    lower : (u w y k : ℤ) → pos 0 <ℤ k → (w *ℤ k) ≤ℤ y → y <ℤ (u *ℤ k) → (pos 1 *ℤ w -ℤ pos 1 *ℤ u) <ℤ pos 0
    lower u w y k kp i j = omega (arith, ints, lt_cancel w u k kp (omega (arith, ints)))

-- 1 where v stands higher than p, else 0
abbrev pub tops : RatPoint → Point → ℤ
tops p v = over p.y (v.y *ℤ p.k)

cross_det : (p : RatPoint) (e : Edge) → cross p e ≡ cross_of (e.a.y *ℤ p.k) (e.b.y *ℤ p.k) p.y (det (whole e.a) (whole e.b) p)
cross_det p e = ap (cross_of (e.a.y *ℤ p.k) (e.b.y *ℤ p.k) p.y) (orient_det e.a e.b p)

le_of_lt : (a b : ℤ) → a <ℤ b → a ≤ℤ b
le_of_lt a b h = omega (arith, ints)

pub cross_right : (l : Line) (p : RatPoint) (e : Edge) → side l (whole e.a) ≤ℤ pos 0 → side l (whole e.b) ≤ℤ pos 0 → pos 0 <ℤ side l p → pos 0 <ℤ p.k →
    l.a <ℤ pos 0 → cross p e ≡ tops p e.b -ℤ tops p e.a
cross_right l p e ha hb hp kp n = cross_det p e ∙ cross_all (e.a.y *ℤ p.k) (e.b.y *ℤ p.k) p.y (det (whole e.a) (whole e.b) p)
    (λ i j. neg_factor l.a (det (whole e.a) (whole e.b) p) (rises l p e.a e.b ha hb hp kp i j) n)
    (λ i j. np_factor l.a (det (whole e.a) (whole e.b) p) (falls l p e.a e.b ha hb hp kp i j) (le_of_lt l.a (pos 0) n))

pub cross_left : (l : Line) (p : RatPoint) (e : Edge) → side l (whole e.a) ≤ℤ pos 0 → side l (whole e.b) ≤ℤ pos 0 → pos 0 <ℤ side l p → pos 0 <ℤ p.k →
    pos 0 ≤ℤ l.a → cross p e ≡ pos 0
cross_left l p e ha hb hp kp n = cross_det p e ∙ cross_none (e.a.y *ℤ p.k) (e.b.y *ℤ p.k) p.y (det (whole e.a) (whole e.b) p)
    (λ i j. le_of_lt _ _ (nn_factor l.a (det (whole e.a) (whole e.b) p) (rises l p e.a e.b ha hb hp kp i j) n))
    (λ i j. le_of_lt _ _ (pos_factor l.a (det (whole e.a) (whole e.b) p) (falls l p e.a e.b ha hb hp kp i j) n))

-- ---- between two heights
sloping_sum : (D s U t W r m : ℤ) → D *ℤ s +ℤ U *ℤ t +ℤ W *ℤ r +ℤ m ≡ pos 0 → pos 0 <ℤ D → s ≤ℤ pos 0 → U ≤ℤ pos 0 → pos 0 <ℤ t → W <ℤ pos 0 → pos 0 <ℤ r → pos 0 <ℤ m
sloping_sum D s U t W r m e d h u i w j = omega (arith, ints, nn_np_mul D s (omega (arith, ints)) h, np_nn_mul U t u (omega (arith, ints)), pos_mul_neg r W j w)

-- p lower than v, and v not higher than q
between : (l : Line) (p q : RatPoint) (v : Point) → side l (whole v) ≤ℤ pos 0 → pos 0 <ℤ side l p → pos 0 <ℤ side l q → pos 0 <ℤ p.k → pos 0 <ℤ q.k →
    p.y <ℤ (v.y *ℤ p.k) → (v.y *ℤ q.k) ≤ℤ q.y → pos 0 <ℤ (l.a *ℤ det p q (whole v))
between l p q v hv hp hq kp kq i j = sloping_sum (above p q) (side l (whole v)) (above q (whole v)) (side l p) (above (whole v) p) (side l q) (l.a *ℤ det p q (whole v))
    (three l p q (whole v))
    (omega (arith, ints, above_by p q v, pos_mul q.k (above p (whole v)) kq (omega (arith, ints)), nn_mul p.k (above (whole v) q) (omega (arith, ints)) (omega (arith, ints))))
    hv (omega (arith, ints)) hp (omega (arith, ints)) hq

-- what an edge's end gives to the difference of the crossings of p and q
abbrev pub share : RatPoint → RatPoint → Point → ℤ
share p q v = cond (lt_z (det p q (whole v)) (pos 0)) (tops p v -ℤ tops q v) (pos 0)

share_all : (o y u z w : ℤ) → (w ≤ℤ z → y <ℤ u → o <ℤ pos 0) → (u ≤ℤ y → w ≤ℤ z) → cond (lt_z o (pos 0)) (over y u -ℤ over z w) (pos 0) ≡ over y u -ℤ over z w
share_all o y u z w h j = grind (arith, ints)

share_none : (o y u z w : ℤ) → (w ≤ℤ z → y <ℤ u → pos 0 ≤ℤ o) → (u ≤ℤ y → w ≤ℤ z) → cond (lt_z o (pos 0)) (over y u -ℤ over z w) (pos 0) ≡ pos 0
share_none o y u z w h j = grind (arith, ints)

-- where p is not higher than q, a point that is not higher than p is not higher than q
pub under_both : (p q : RatPoint) (v : Point) → pos 0 <ℤ p.k → pos 0 <ℤ q.k → pos 0 ≤ℤ above p q → (v.y *ℤ p.k) ≤ℤ p.y → (v.y *ℤ q.k) ≤ℤ q.y
under_both p q v kp kq h i = elim (either (v.y *ℤ q.k) q.y)
    [ inl n ↦ n | inr m ↦ absurd (omega (arith, ints, above_by p q v, nn_np_mul q.k (above p (whole v)) (omega (arith, ints)) (omega (arith, ints)), pos_mul_neg p.k (above (whole v) q) kp (omega (arith, ints)))) ]

pub share_right : (l : Line) (p q : RatPoint) (v : Point) → side l (whole v) ≤ℤ pos 0 → pos 0 <ℤ side l p → pos 0 <ℤ side l q → pos 0 <ℤ p.k → pos 0 <ℤ q.k → pos 0 ≤ℤ above p q →
    l.a <ℤ pos 0 → share p q v ≡ tops p v -ℤ tops q v
share_right l p q v hv hp hq kp kq h n = share_all (det p q (whole v)) p.y (v.y *ℤ p.k) q.y (v.y *ℤ q.k)
    (λ j i. np_factor l.a (det p q (whole v)) (between l p q v hv hp hq kp kq i j) (le_of_lt l.a (pos 0) n))
    (under_both p q v kp kq h)

pub share_left : (l : Line) (p q : RatPoint) (v : Point) → side l (whole v) ≤ℤ pos 0 → pos 0 <ℤ side l p → pos 0 <ℤ side l q → pos 0 <ℤ p.k → pos 0 <ℤ q.k → pos 0 ≤ℤ above p q →
    pos 0 ≤ℤ l.a → share p q v ≡ pos 0
share_left l p q v hv hp hq kp kq h n = share_none (det p q (whole v)) p.y (v.y *ℤ p.k) q.y (v.y *ℤ q.k)
    (λ j i. le_of_lt _ _ (pos_factor l.a (det p q (whole v)) (between l p q v hv hp hq kp kq i j) n))
    (under_both p q v kp kq h)

differ : (c d pa pb qa qb ga gb : ℤ) → c ≡ pb -ℤ pa → d ≡ qb -ℤ qa → ga ≡ pa -ℤ qa → gb ≡ pb -ℤ qb → c -ℤ d ≡ gb -ℤ ga
differ c d pa pb qa qb ga gb e f g h = omega (arith, ints)

differ_none : (c d ga gb : ℤ) → c ≡ pos 0 → d ≡ pos 0 → ga ≡ pos 0 → gb ≡ pos 0 → c -ℤ d ≡ gb -ℤ ga
differ_none c d ga gb e f g h = omega (arith, ints)

-- the crossings of p and q at an edge that a line parts from both differ by one number per end
pub cross_apart : (l : Line) (p q : RatPoint) (e : Edge) → side l (whole e.a) ≤ℤ pos 0 → side l (whole e.b) ≤ℤ pos 0 → pos 0 <ℤ side l p → pos 0 <ℤ side l q →
    pos 0 <ℤ p.k → pos 0 <ℤ q.k → pos 0 ≤ℤ above p q → cross p e -ℤ cross q e ≡ share p q e.b -ℤ share p q e.a
cross_apart l p q e ha hb hp hq kp kq h = elim (either (pos 0) l.a) [
  | inl n ↦ differ_none (cross p e) (cross q e) (share p q e.a) (share p q e.b) (cross_left l p e ha hb hp kp n) (cross_left l q e ha hb hq kq n)
      (share_left l p q e.a ha hp hq kp kq h n) (share_left l p q e.b hb hp hq kp kq h n)
  | inr n ↦ differ (cross p e) (cross q e) (tops p e.a) (tops p e.b) (tops q e.a) (tops q e.b) (share p q e.a) (share p q e.b)
      (cross_right l p e ha hb hp kp n) (cross_right l q e ha hb hq kq n) (share_right l p q e.a ha hp hq kp kq h n) (share_right l p q e.b hb hp hq kp kq h n)
]

-- ---- a closed list
-- the line has the edge on its closed right side, and p and q on its left
pub record IsPartedByLine (p q : RatPoint) (e : Edge) : Type 0 where
  pub line : Line
  pub start_right : side line (whole e.a) ≤ℤ pos 0
  pub end_right : side line (whole e.b) ≤ℤ pos 0
  pub p_left : pos 0 <ℤ side line p
  pub q_left : pos 0 <ℤ side line q

by_line : (p q : RatPoint) (e : Edge) → IsParted p q e → IsPartedByLine p q e
by_line p q e h = record {
  line = through h.c h.d;
  start_right = subst (λ (z : ℤ). z ≤ℤ pos 0) (sym (through_is h.c h.d (whole e.a) ∙ orient_whole h.c h.d e.a)) h.start_right;
  end_right = subst (λ (z : ℤ). z ≤ℤ pos 0) (sym (through_is h.c h.d (whole e.b) ∙ orient_whole h.c h.d e.b)) h.end_right;
  p_left = subst (λ (z : ℤ). pos 0 <ℤ z) (sym (through_is h.c h.d p)) h.p_left;
  q_left = subst (λ (z : ℤ). pos 0 <ℤ z) (sym (through_is h.c h.d q)) h.q_left;
}

all_by_line : (p q : RatPoint) (es : List Edge) → AllByRecursion (IsParted p q) es → AllByRecursion (IsPartedByLine p q) es
all_by_line p q [] h = tt
all_by_line p q (e ∷ es) h = (by_line p q e h.0, all_by_line p q es h.1)

step : (c d w x g n : ℤ) → c -ℤ d ≡ g → w -ℤ x ≡ n → (c +ℤ w) -ℤ (d +ℤ x) ≡ g +ℤ n
step c d w x g n e f = omega (arith, ints)

wind_differ : (p q : RatPoint) (es : List Edge) → IsRational p → IsRational q → pos 0 ≤ℤ above p q → AllByRecursion (IsPartedByLine p q) es → wind p es -ℤ wind q es ≡ gain (share p q) es
wind_differ p q [] kp kq h all = refl
wind_differ p q (e ∷ es) kp kq h all = step (cross p e) (cross q e) (wind p es) (wind q es) (share p q e.b -ℤ share p q e.a) (gain (share p q) es)
    (cross_apart all.0.line p q e all.0.start_right all.0.end_right all.0.p_left all.0.q_left kp.positive kq.positive h) (wind_differ p q es kp kq h all.1)

swapped : (p q : RatPoint) (es : List Edge) → AllByRecursion (IsPartedByLine p q) es → AllByRecursion (IsPartedByLine q p) es
swapped p q [] h = tt
swapped p q (e ∷ es) h = (record { line = h.0.line; start_right = h.0.start_right; end_right = h.0.end_right; p_left = h.0.q_left; q_left = h.0.p_left }, swapped p q es h.1)

equal : (w x n : ℤ) → w -ℤ x ≡ n → n ≡ pos 0 → w ≡ x
equal w x n e f = omega (arith, ints)

uncrossed_up : (p q : RatPoint) (es : List Edge) → IsClosed es → IsRational p → IsRational q → pos 0 ≤ℤ above p q → AllByRecursion (IsPartedByLine p q) es → wind p es ≡ wind q es
uncrossed_up p q es c kp kq h all = equal (wind p es) (wind q es) (gain (share p q) es) (wind_differ p q es kp kq h all) (gain_closed (share p q) es c)

pub uncrossed : (p q : RatPoint) (es : List Edge) → IsClosed es → IsRational p → IsRational q → AllByRecursion (IsPartedByLine p q) es → wind p es ≡ wind q es
uncrossed p q es c kp kq all = elim (either (pos 0) (above p q)) [
  | inl h ↦ uncrossed_up p q es c kp kq h all
  | inr h ↦ sym (uncrossed_up q p es c kq kp (other p q h) (swapped p q es all))
]
  where
    other : (p q : RatPoint) → above p q <ℤ pos 0 → pos 0 ≤ℤ above q p
    other p q h = omega (arith, ints)

pub law_uncrossed : (p q : RatPoint) (es : List Edge) → IsRational p → IsRational q → IsClosed es → AllByRecursion (IsParted p q) es → wind p es ≡ wind q es
law_uncrossed p q es kp kq c all = uncrossed p q es c kp kq (all_by_line p q es all)
