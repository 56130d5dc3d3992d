-- A point of a segment is where both its ends are (`mean_left`, `mean_right`), so segments with a line between them have no point in common
-- (`separated_apart`), and a segment lies on its own line (`on_line`). Stands on Lines and Signs.
use lib.IntN.{ℤ, pos, ◌+ℤ◌, ◌*ℤ◌}
use lib.Signed.{◌<ℤ◌, ◌≤ℤ◌}
use mathlib.Core.Path.{◌≡◌, refl, ap, ◌∙◌}
use mathlib.Core.List.{[], ◌∷◌}
use mathlib.Core.Logic.{inl, inr}
use native.Mathlib.Omega.{arith}
use Rattle.std.proofs.lemmas.Int.{ints}
use Rattle.grid_geom.specs.declared.Point.{Point}
use Rattle.grid_geom.specs.declared.RatPoint.{RatPoint}
use Rattle.grid_geom.specs.Line.{Line, side, whole, through}
use Rattle.grid_geom.specs.Segment.{IsOnSegment, DoMeet, IsSeparated}
use Rattle.grid_geom.proofs.Lines.{through_is, orient_whole, flat_first, flat_second}
use Rattle.grid_geom.proofs.Ring.{var, ◌⊕◌, ◌⊗◌, ring}
use Rattle.grid_geom.proofs.Signs.{nn_mul, pos_mul, nn_np_mul, either, pos_factor, le_cancel}

-- a line's value at a mean is the mean of its values
pub side_mean : (l : Line) (m p q : RatPoint) (h : IsOnSegment m p q) → side l m *ℤ (h.of_p *ℤ p.k +ℤ h.of_q *ℤ q.k) ≡ m.k *ℤ (h.of_p *ℤ side l p +ℤ h.of_q *ℤ side l q)
side_mean l m p q h =
    ring (l.a ∷ l.b ∷ l.c ∷ m.x ∷ m.y ∷ m.k ∷ (h.of_p *ℤ p.k +ℤ h.of_q *ℤ q.k) ∷ []) ((var 0 ⊗ var 3 ⊕ var 1 ⊗ var 4 ⊕ var 2 ⊗ var 5) ⊗ var 6) (var 0 ⊗ (var 3 ⊗ var 6) ⊕ var 1 ⊗ (var 4 ⊗ var 6) ⊕ var 2 ⊗ (var 5 ⊗ var 6)) refl
    ∙ ap (λ (z : ℤ). l.a *ℤ z +ℤ l.b *ℤ (m.y *ℤ (h.of_p *ℤ p.k +ℤ h.of_q *ℤ q.k)) +ℤ l.c *ℤ (m.k *ℤ (h.of_p *ℤ p.k +ℤ h.of_q *ℤ q.k))) h.mean_x
    ∙ ap (λ (z : ℤ). l.a *ℤ (m.k *ℤ (h.of_p *ℤ p.x +ℤ h.of_q *ℤ q.x)) +ℤ l.b *ℤ z +ℤ l.c *ℤ (m.k *ℤ (h.of_p *ℤ p.k +ℤ h.of_q *ℤ q.k))) h.mean_y
    ∙ ring (l.a ∷ l.b ∷ l.c ∷ m.k ∷ h.of_p ∷ h.of_q ∷ p.x ∷ p.y ∷ p.k ∷ q.x ∷ q.y ∷ q.k ∷ [])
    (var 0 ⊗ (var 3 ⊗ (var 4 ⊗ var 6 ⊕ var 5 ⊗ var 9)) ⊕ var 1 ⊗ (var 3 ⊗ (var 4 ⊗ var 7 ⊕ var 5 ⊗ var 10)) ⊕ var 2 ⊗ (var 3 ⊗ (var 4 ⊗ var 8 ⊕ var 5 ⊗ var 11)))
    (var 3 ⊗ (var 4 ⊗ (var 0 ⊗ var 6 ⊕ var 1 ⊗ var 7 ⊕ var 2 ⊗ var 8) ⊕ var 5 ⊗ (var 0 ⊗ var 9 ⊕ var 1 ⊗ var 10 ⊕ var 2 ⊗ var 11))) refl

pub some_weight : (s t a b : ℤ) → pos 0 ≤ℤ s → pos 0 ≤ℤ t → pos 0 <ℤ (s +ℤ t) → pos 0 <ℤ a → pos 0 <ℤ b → pos 0 <ℤ (s *ℤ a +ℤ t *ℤ b)
some_weight s t a b hs ht h ha hb = elim (either s (pos 0)) [
  | inr n ↦ omega (arith, ints, pos_mul s a n ha, nn_mul t b ht (omega (arith, ints)))
  | inl n ↦ omega (arith, ints, nn_mul s a hs (omega (arith, ints)), pos_mul t b (omega (arith, ints)) hb)
]

-- a point of a segment is where both its ends are
pub mean_left : (l : Line) (m p q : RatPoint) → IsOnSegment m p q → pos 0 <ℤ m.k → pos 0 <ℤ p.k → pos 0 <ℤ q.k → pos 0 <ℤ side l p → pos 0 <ℤ side l q → pos 0 <ℤ side l m
mean_left l m p q h km kp kq hp hq = pos_factor (h.of_p *ℤ p.k +ℤ h.of_q *ℤ q.k) (side l m)
    (turned (side l m) (h.of_p *ℤ p.k +ℤ h.of_q *ℤ q.k) (side_mean l m p q h) (pos_mul m.k (h.of_p *ℤ side l p +ℤ h.of_q *ℤ side l q) km (some_weight h.of_p h.of_q (side l p) (side l q) h.p_weight h.q_weight h.weighted hp hq)))
    (weak (some_weight h.of_p h.of_q p.k q.k h.p_weight h.q_weight h.weighted kp kq))
  where
    turned : (s w : ℤ) {z : ℤ} → s *ℤ w ≡ z → pos 0 <ℤ z → pos 0 <ℤ (w *ℤ s)
    turned s w {z} e h = omega (arith, ints, e)

    weak : {z : ℤ} → pos 0 <ℤ z → pos 0 ≤ℤ z
    weak {z} h = omega (arith, ints)

pub mean_right : (l : Line) (m p q : RatPoint) → IsOnSegment m p q → pos 0 <ℤ m.k → pos 0 <ℤ p.k → pos 0 <ℤ q.k → side l p ≤ℤ pos 0 → side l q ≤ℤ pos 0 → side l m ≤ℤ pos 0
mean_right l m p q h km kp kq hp hq = le_cancel (side l m) (pos 0) (h.of_p *ℤ p.k +ℤ h.of_q *ℤ q.k) (some_weight h.of_p h.of_q p.k q.k h.p_weight h.q_weight h.weighted kp kq)
    (down (h.of_p *ℤ p.k +ℤ h.of_q *ℤ q.k) (side_mean l m p q h) (nn_np_mul m.k (h.of_p *ℤ side l p +ℤ h.of_q *ℤ side l q) (weak km) (added (nn_np_mul h.of_p (side l p) h.p_weight hp) (nn_np_mul h.of_q (side l q) h.q_weight hq))))
  where
    down : {y : ℤ} (w : ℤ) {z : ℤ} → y ≡ z → z ≤ℤ pos 0 → y ≤ℤ (pos 0 *ℤ w)
    down {y} w {z} e h = omega (arith, ints)

    weak : {z : ℤ} → pos 0 <ℤ z → pos 0 ≤ℤ z
    weak {z} h = omega (arith, ints)

    added : {y z : ℤ} → y ≤ℤ pos 0 → z ≤ℤ pos 0 → (y +ℤ z) ≤ℤ pos 0
    added {y} {z} h j = omega (arith, ints)

-- segments that a line parts do not meet
pub separated_apart : (p q c d : RatPoint) → pos 0 <ℤ p.k → pos 0 <ℤ q.k → pos 0 <ℤ c.k → pos 0 <ℤ d.k → IsSeparated p q c d → DoMeet p q c d → ⊥
separated_apart p q c d kp kq kc kd h m = clash (mean_left h.line m.at p q m.on_first m.rational kp kq h.p_left h.q_left) (mean_right h.line m.at c d m.on_second m.rational kc kd h.c_right h.d_right)
  where
    clash : {z : ℤ} → pos 0 <ℤ z → z ≤ℤ pos 0 → ⊥
    clash {z} h j = omega (arith, ints)

-- both ends of a segment are on its line
pub on_line : (a b : Point) (m : RatPoint) → pos 0 <ℤ m.k → IsOnSegment m (whole a) (whole b) → (side (through a b) m ≤ℤ pos 0) × (side (through b a) m ≤ℤ pos 0)
on_line a b m km on = (
  mean_right (through a b) m (whole a) (whole b) on km (omega (arith, ints)) (omega (arith, ints)) (flat (through_is a b (whole a) ∙ orient_whole a b a ∙ flat_first a b)) (flat (through_is a b (whole b) ∙ orient_whole a b b ∙ flat_second a b)),
  mean_right (through b a) m (whole a) (whole b) on km (omega (arith, ints)) (omega (arith, ints)) (flat (through_is b a (whole a) ∙ orient_whole b a a ∙ flat_second b a)) (flat (through_is b a (whole b) ∙ orient_whole b a b ∙ flat_first b a)),
)
  where
    flat : {z : ℤ} → z ≡ pos 0 → z ≤ℤ pos 0
    flat {z} e = omega (arith, ints)
