-- A local place that is (nu, nv) over d q is placed at the start plus (nu e + nv e turned left) over d times the square of the length, rounded.
-- Stands on Rows and Rounding.
use lib.IntN.{ℤ, pos, ◌+ℤ◌, ◌-ℤ◌, ◌*ℤ◌}
use lib.Signed.{◌<ℤ◌}
use mathlib.Core.List.{[], ◌∷◌}
use mathlib.Core.Path.{◌≡◌, refl, ap, ◌∙◌}
use native.Mathlib.Omega.{arith}
use Rattle.std.proofs.lemmas.Int.{ints}
use Rattle.grid_geom.proofs.Ring.{var, num, ◌⊕◌, ◌⊖◌, ◌⊗◌, ring}
use Rattle.grid_geom.proofs.Signs.{pos_mul}
use Rattle.rule_maps.specs.Fractions.{Fraction, IsFraction, nearest, IsNearest, whole, plus, minus, times, divided}
use Rattle.rule_maps.specs.Frame.{LocalFrame, dot}
use Rattle.rule_maps.specs.Places.{Local, placed, placed_at}
use Rattle.rule_maps.proofs.Rounding.{nearest_near, nearest_equal, one_nearest}
use Rattle.rule_maps.proofs.Rows.{IsOver}

-- a whole number more is rounded to as many more
nearest_shift : (p t b : ℤ) → pos 0 <ℤ b → nearest (record { top = p *ℤ b +ℤ t; bottom = b }) ≡ p +ℤ nearest (record { top = t; bottom = b })
nearest_shift p t b hb = one_nearest (record { top = p *ℤ b +ℤ t; bottom = b }) (nearest (record { top = p *ℤ b +ℤ t; bottom = b })) (p +ℤ nearest (record { top = t; bottom = b })) (record { positive = hb }) (nearest_near (record { top = p *ℤ b +ℤ t; bottom = b }) (record { positive = hb }))
    (moved (nearest (record { top = t; bottom = b })) (nearest_near (record { top = t; bottom = b }) (record { positive = hb })))
  where
    moved : (n : ℤ) → IsNearest (record { top = t; bottom = b }) n → IsNearest (record { top = p *ℤ b +ℤ t; bottom = b }) (p +ℤ n)
    moved n h = record {
      not_more = omega (arith, ints, h.not_more, ring (p ∷ n ∷ b ∷ []) (num (pos 2) ⊗ (var 0 ⊕ var 1) ⊗ var 2 ⊖ var 2) (num (pos 2) ⊗ (var 0 ⊗ var 2) ⊕ (num (pos 2) ⊗ var 1 ⊗ var 2 ⊖ var 2)) refl);
      not_less = omega (arith, ints, h.not_less, ring (p ∷ n ∷ b ∷ []) (num (pos 2) ⊗ (var 0 ⊕ var 1) ⊗ var 2 ⊕ var 2) (num (pos 2) ⊗ (var 0 ⊗ var 2) ⊕ (num (pos 2) ⊗ var 1 ⊗ var 2 ⊕ var 2)) refl);
    }

-- the part of a coordinate: u g - v k, where g and k are q times coordinates of e
part_is : (q d g k s nu nv ut ub vt vb : ℤ) → ut *ℤ (d *ℤ q) ≡ nu *ℤ ub → vt *ℤ (d *ℤ q) ≡ nv *ℤ vb →
    (ut *ℤ (q *ℤ g) *ℤ (vb *ℤ pos 1) -ℤ vt *ℤ (q *ℤ k) *ℤ (ub *ℤ pos 1)) *ℤ (d *ℤ s) ≡ (nu *ℤ g -ℤ nv *ℤ k) *ℤ (ub *ℤ pos 1 *ℤ (vb *ℤ pos 1) *ℤ s)
part_is q d g k s nu nv ut ub vt vb e h =
    ring (q ∷ d ∷ g ∷ k ∷ s ∷ ut ∷ ub ∷ vt ∷ vb ∷ []) ((var 5 ⊗ (var 0 ⊗ var 2) ⊗ (var 8 ⊗ num (pos 1)) ⊖ var 7 ⊗ (var 0 ⊗ var 3) ⊗ (var 6 ⊗ num (pos 1))) ⊗ (var 1 ⊗ var 4)) (var 2 ⊗ var 8 ⊗ var 4 ⊗ (var 5 ⊗ (var 1 ⊗ var 0)) ⊖ var 3 ⊗ var 6 ⊗ var 4 ⊗ (var 7 ⊗ (var 1 ⊗ var 0))) refl
    ∙ ap (λ (z : ℤ). g *ℤ vb *ℤ s *ℤ z -ℤ k *ℤ ub *ℤ s *ℤ (vt *ℤ (d *ℤ q))) e
    ∙ ap (λ (z : ℤ). g *ℤ vb *ℤ s *ℤ (nu *ℤ ub) -ℤ k *ℤ ub *ℤ s *ℤ z) h
    ∙ ring (g ∷ k ∷ s ∷ nu ∷ nv ∷ ub ∷ vb ∷ []) (var 0 ⊗ var 6 ⊗ var 2 ⊗ (var 3 ⊗ var 5) ⊖ var 1 ⊗ var 5 ⊗ var 2 ⊗ (var 4 ⊗ var 6)) ((var 3 ⊗ var 0 ⊖ var 4 ⊗ var 1) ⊗ (var 5 ⊗ num (pos 1) ⊗ (var 6 ⊗ num (pos 1)) ⊗ var 2)) refl

part_sum : (q d g k s nu nv ut ub vt vb : ℤ) → ut *ℤ (d *ℤ q) ≡ nu *ℤ ub → vt *ℤ (d *ℤ q) ≡ nv *ℤ vb →
    (ut *ℤ (q *ℤ g) *ℤ (vb *ℤ pos 1) +ℤ vt *ℤ (q *ℤ k) *ℤ (ub *ℤ pos 1)) *ℤ (d *ℤ s) ≡ (nu *ℤ g +ℤ nv *ℤ k) *ℤ (ub *ℤ pos 1 *ℤ (vb *ℤ pos 1) *ℤ s)
part_sum q d g k s nu nv ut ub vt vb e h =
    ring (q ∷ d ∷ g ∷ k ∷ s ∷ ut ∷ ub ∷ vt ∷ vb ∷ []) ((var 5 ⊗ (var 0 ⊗ var 2) ⊗ (var 8 ⊗ num (pos 1)) ⊕ var 7 ⊗ (var 0 ⊗ var 3) ⊗ (var 6 ⊗ num (pos 1))) ⊗ (var 1 ⊗ var 4)) (var 2 ⊗ var 8 ⊗ var 4 ⊗ (var 5 ⊗ (var 1 ⊗ var 0)) ⊕ var 3 ⊗ var 6 ⊗ var 4 ⊗ (var 7 ⊗ (var 1 ⊗ var 0))) refl
    ∙ ap (λ (z : ℤ). g *ℤ vb *ℤ s *ℤ z +ℤ k *ℤ ub *ℤ s *ℤ (vt *ℤ (d *ℤ q))) e
    ∙ ap (λ (z : ℤ). g *ℤ vb *ℤ s *ℤ (nu *ℤ ub) +ℤ k *ℤ ub *ℤ s *ℤ z) h
    ∙ ring (g ∷ k ∷ s ∷ nu ∷ nv ∷ ub ∷ vb ∷ []) (var 0 ⊗ var 6 ⊗ var 2 ⊗ (var 3 ⊗ var 5) ⊕ var 1 ⊗ var 5 ⊗ var 2 ⊗ (var 4 ⊗ var 6)) ((var 3 ⊗ var 0 ⊕ var 4 ⊗ var 1) ⊗ (var 5 ⊗ num (pos 1) ⊗ (var 6 ⊗ num (pos 1)) ⊗ var 2)) refl

-- a coordinate whose part is t over b
coordinate : (p t b s : ℤ) (part : Fraction) → pos 0 <ℤ b → pos 0 <ℤ s → IsFraction part → part.top *ℤ b ≡ t *ℤ (part.bottom *ℤ s) → placed_at p part s ≡ p +ℤ nearest (record { top = t; bottom = b })
coordinate p t b s part hb hs hp e = nearest_equal (plus (whole p) (divided part s)) (record { top = p *ℤ b +ℤ t; bottom = b }) (record { positive = omega (arith, ints, pos_mul part.bottom s hp.positive hs) }) (record { positive = hb }) (record { crossed = crossed }) ∙ nearest_shift p t b hb
  where
    crossed : (p *ℤ (part.bottom *ℤ s) +ℤ part.top *ℤ pos 1) *ℤ b ≡ (p *ℤ b +ℤ t) *ℤ (pos 1 *ℤ (part.bottom *ℤ s))
    crossed = ring (p ∷ (part.bottom *ℤ s) ∷ part.top ∷ b ∷ []) ((var 0 ⊗ var 1 ⊕ var 2 ⊗ num (pos 1)) ⊗ var 3) (var 0 ⊗ var 1 ⊗ var 3 ⊕ var 2 ⊗ var 3) refl ∙ ap (λ (z : ℤ). p *ℤ (part.bottom *ℤ s) *ℤ b +ℤ z) e ∙ ring (p ∷ (part.bottom *ℤ s) ∷ t ∷ b ∷ []) (var 0 ⊗ var 1 ⊗ var 3 ⊕ var 2 ⊗ var 1) ((var 0 ⊗ var 3 ⊕ var 2) ⊗ (num (pos 1) ⊗ var 1)) refl

-- the coordinates that the code computes
abbrev pub offset_x : LocalFrame → ℤ → ℤ → ℤ → Fraction
offset_x f nu nv d = record { top = nu *ℤ f.e.x -ℤ nv *ℤ f.e.y; bottom = d *ℤ dot f.e f.e }

abbrev pub offset_y : LocalFrame → ℤ → ℤ → ℤ → Fraction
offset_y f nu nv d = record { top = nu *ℤ f.e.y +ℤ nv *ℤ f.e.x; bottom = d *ℤ dot f.e f.e }

pub placed_is : (f : LocalFrame) (at : Local) (nu nv d : ℤ) → pos 0 <ℤ d → pos 0 <ℤ dot f.e f.e → IsOver at.u nu (d *ℤ f.q) → IsOver at.v nv (d *ℤ f.q) → placed f at ≡ record { x = f.p1.x +ℤ nearest (offset_x f nu nv d); y = f.p1.y +ℤ nearest (offset_y f nu nv d) }
unfolding placed
placed_is f at nu nv d hd hs hu hv = ap (λ (x : ℤ). record { x = x; y = placed_at f.p1.y (plus (times at.u (whole (f.q *ℤ f.e.y))) (times at.v (whole (f.q *ℤ f.e.x)))) (dot f.e f.e) }) across ∙ ap (λ (y : ℤ). record { x = f.p1.x +ℤ nearest (offset_x f nu nv d); y = y }) along
  where
    positive : pos 0 <ℤ (at.u.bottom *ℤ pos 1 *ℤ (at.v.bottom *ℤ pos 1))
    positive = pos_mul (at.u.bottom *ℤ pos 1) (at.v.bottom *ℤ pos 1) (omega (arith, ints, hu.fraction.positive)) (omega (arith, ints, hv.fraction.positive))

    across : placed_at f.p1.x (minus (times at.u (whole (f.q *ℤ f.e.x))) (times at.v (whole (f.q *ℤ f.e.y)))) (dot f.e f.e) ≡ f.p1.x +ℤ nearest (offset_x f nu nv d)
    across = coordinate f.p1.x (nu *ℤ f.e.x -ℤ nv *ℤ f.e.y) (d *ℤ dot f.e f.e) (dot f.e f.e) (minus (times at.u (whole (f.q *ℤ f.e.x))) (times at.v (whole (f.q *ℤ f.e.y)))) (pos_mul d (dot f.e f.e) hd hs) hs (record { positive = positive })
        (part_is f.q d f.e.x f.e.y (dot f.e f.e) nu nv at.u.top at.u.bottom at.v.top at.v.bottom hu.crossed hv.crossed)

    along : placed_at f.p1.y (plus (times at.u (whole (f.q *ℤ f.e.y))) (times at.v (whole (f.q *ℤ f.e.x)))) (dot f.e f.e) ≡ f.p1.y +ℤ nearest (offset_y f nu nv d)
    along = coordinate f.p1.y (nu *ℤ f.e.y +ℤ nv *ℤ f.e.x) (d *ℤ dot f.e f.e) (dot f.e f.e) (plus (times at.u (whole (f.q *ℤ f.e.y))) (times at.v (whole (f.q *ℤ f.e.x)))) (pos_mul d (dot f.e f.e) hd hs) hs (record { positive = positive })
        (part_sum f.q d f.e.y f.e.x (dot f.e f.e) nu nv at.u.top at.u.bottom at.v.top at.v.bottom hu.crossed hv.crossed)
