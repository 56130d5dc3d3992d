-- What is computed of a compiled rule are the places of its text. Stands on Rows, GridPlaces and Constants.
use Prim.Native.Nat.{ℕ, ◌*◌, ◌-◌, ◌≤◌}
use lib.IntN.{ℤ, pos, ◌+ℤ◌, ◌-ℤ◌, ◌*ℤ◌}
use lib.Signed.{◌<ℤ◌}
use mathlib.Core.List.{List, [], ◌∷◌}
use lib.ListN.{length}
use mathlib.Core.Path.{◌≡◌, refl, sym, ap, ◌∙◌, subst}
use native.Mathlib.Omega.{arith}
use mathlib.Core.Logic.{inl, inr}
use Rattle.std.proofs.lemmas.Int.{ints}
use Rattle.std.proofs.lemmas.Bool.Decides.{eqb_tells}
use Rattle.grid_geom.proofs.Ring.{var, num, ◌⊕◌, ◌⊗◌, ring}
use Rattle.grid_geom.proofs.Signs.{pos_mul}
use Rattle.rule_reader.specs.declared.rule.Place.{Place}
use Rattle.rule_reader.specs.declared.rule.Rule.{Rule}
use Rattle.rule_maps.specs.Fractions.{Fraction}
use Rattle.rule_maps.specs.Frame.{LocalFrame, IsFrame}
use Rattle.rule_maps.specs.Places.{Mapping, Local, place_at, row_value, local_of, mix, mixed, placed, narrowest, new_point, corner}
use Rattle.rule_maps.specs.Sums.{constants_of, numerator, put_at}
use Rattle.rule_maps.specs.Inert.{HasBadZone, unequal}
use Rattle.rule_maps.proofs.Frames.{HasBounds, frame_bounds}
use Rattle.rule_maps.proofs.Rows.{IsOver, row_is, mix_is}
use Rattle.rule_maps.proofs.GridPlaces.{placed_is}
use Rattle.rule_maps.proofs.Putting.{square_positive}

-- u and v are the numerators of a place of the rule
pub record IsComputed (m : Mapping) (p : Place) (u v : ℤ) : Type 0 where
  pub u_is : u ≡ numerator m.frame m.mapped (constants_of m.rule.points p).x p.row_x
  pub v_is : v ≡ numerator m.frame m.mapped (constants_of m.rule.points p).y p.row_y

over_u : (m : Mapping) (p : Place) (u v : ℤ) → pos 0 <ℤ m.frame.q → IsComputed m p u v → IsOver (local_of m p).u u (pos 100000000 *ℤ m.frame.q)
unfolding local_of
over_u m p u v hq h = subst (λ (z : ℤ). IsOver (row_value m p.x p.row_x) z (pos 100000000 *ℤ m.frame.q)) (sym h.u_is) (row_is m p.x p.row_x hq)

over_v : (m : Mapping) (p : Place) (u v : ℤ) → pos 0 <ℤ m.frame.q → IsComputed m p u v → IsOver (local_of m p).v v (pos 100000000 *ℤ m.frame.q)
unfolding local_of
over_v m p u v hq h = subst (λ (z : ℤ). IsOver (row_value m p.y p.row_y) z (pos 100000000 *ℤ m.frame.q)) (sym h.v_is) (row_is m p.y p.row_y hq)

pub unit_positive : (f : LocalFrame) → HasBounds f → pos 0 <ℤ f.q
unit_positive f b = omega (arith, ints, b.unit_least)

put_is : (m : Mapping) (at : Local) (u v d : ℤ) → IsFrame m.frame → pos 0 <ℤ d → IsOver at.u u (d *ℤ m.frame.q) → IsOver at.v v (d *ℤ m.frame.q) → put_at m.frame u v d ≡ placed m.frame at
put_is m at u v d f hd hu hv = sym (placed_is m.frame at u v d hd (square_positive m.frame (frame_bounds m.frame f)) hu hv)

pub new_point_is : (m : Mapping) (k : ℕ) (p : Place) (u v : ℤ) → IsFrame m.frame → p ≡ place_at m.rule.new_points k → IsComputed m p u v → put_at m.frame u v (pos 100000000) ≡ new_point m k
unfolding new_point
new_point_is m k p u v f e h = put_is m (local_of m p) u v (pos 100000000) f (omega (arith, ints)) (over_u m p u v (unit_positive m.frame (frame_bounds m.frame f)) h) (over_v m p u v (unit_positive m.frame (frame_bounds m.frame f)) h) ∙ ap (λ (q : Place). placed m.frame (local_of m q)) e

-- ---- corners
-- one shape mixed with itself: with w = 2 class - 2 and k = w + 1
alone : (w q at ab na : ℤ) → at *ℤ (pos 100000000 *ℤ q) ≡ na *ℤ ab → (at *ℤ (pos 1 *ℤ ab) +ℤ w *ℤ at *ℤ ab) *ℤ (pos 100000000 *ℤ q) ≡ na *ℤ (ab *ℤ (pos 1 *ℤ ab) *ℤ (w +ℤ pos 1))
alone w q at ab na e =
    ring (w ∷ q ∷ at ∷ ab ∷ []) ((var 2 ⊗ (num (pos 1) ⊗ var 3) ⊕ var 0 ⊗ var 2 ⊗ var 3) ⊗ (num (pos 100000000) ⊗ var 1)) (var 3 ⊗ (var 0 ⊕ num (pos 1)) ⊗ (var 2 ⊗ (num (pos 100000000) ⊗ var 1))) refl
    ∙ ap (λ (z : ℤ). ab *ℤ (w +ℤ pos 1) *ℤ z) e
    ∙ ring (w ∷ ab ∷ na ∷ []) (var 1 ⊗ (var 0 ⊕ num (pos 1)) ⊗ (var 2 ⊗ var 1)) (var 2 ⊗ (var 1 ⊗ (num (pos 1) ⊗ var 1) ⊗ (var 0 ⊕ num (pos 1)))) refl

mix_alone : (class : ℕ) (q : ℤ) (a : Fraction) (na : ℤ) → 1 ≤ class → IsOver a na (pos 100000000 *ℤ q) → IsOver (mix class a a) na (pos 100000000 *ℤ q)
mix_alone class q a na hc h = record {
  fraction = record { positive = pos_mul (a.bottom *ℤ (pos 1 *ℤ a.bottom)) (pos 2 *ℤ pos class -ℤ pos 1) (pos_mul a.bottom (pos 1 *ℤ a.bottom) h.fraction.positive (omega (arith, ints, h.fraction.positive))) (omega (arith, ints, hc)) };
  crossed = alone (pos 2 *ℤ pos class -ℤ pos 2) q a.top a.bottom na h.crossed ∙ ap (λ (k : ℤ). na *ℤ (a.bottom *ℤ (pos 1 *ℤ a.bottom) *ℤ k)) (one_less (pos class));
}
  where
    one_less : (z : ℤ) → pos 2 *ℤ z -ℤ pos 2 +ℤ pos 1 ≡ pos 2 *ℤ z -ℤ pos 1
    one_less z = omega (arith, ints)

narrow_alone : (area limit : List Place) → length limit ≡ 0 → narrowest area limit ≡ area
narrow_alone area [] h = refl
narrow_alone area (p ∷ ps) h = absurd (omega (arith, h))

pub narrow_other : (area limit : List Place) → ¬ (length limit ≡ 0) → narrowest area limit ≡ limit
narrow_other area [] h = absurd (h refl)
narrow_other area (p ∷ ps) h = refl

pub corner_alone : (m : Mapping) (k class : ℕ) (p : Place) (u v : ℤ) → IsFrame m.frame → 1 ≤ class → length m.rule.limit ≡ 0 → p ≡ place_at m.rule.area k → IsComputed m p u v → put_at m.frame u v (pos 100000000) ≡ corner m k class
unfolding corner mixed
corner_alone m k class p u v f hc hl e h = put_is m (mixed class (local_of m p) (local_of m p)) u v (pos 100000000) f (omega (arith, ints)) (mix_alone class m.frame.q (local_of m p).u u hc (over_u m p u v (unit_positive m.frame (frame_bounds m.frame f)) h)) (mix_alone class m.frame.q (local_of m p).v v hc (over_v m p u v (unit_positive m.frame (frame_bounds m.frame f)) h))
    ∙ ap (λ (q : Place). placed m.frame (mixed class (local_of m q) (local_of m q))) e
    ∙ ap (λ (ls : List Place). placed m.frame (mixed class (local_of m (place_at m.rule.area k)) (local_of m (place_at ls k)))) (sym (narrow_alone m.rule.area m.rule.limit hl))

-- the numerators of both shapes
pub record AreMixed (class : ℕ) (au av lu lv u v : ℤ) : Type 0 where
  pub u_is : u ≡ au +ℤ (pos 2 *ℤ pos class -ℤ pos 2) *ℤ lu
  pub v_is : v ≡ av +ℤ (pos 2 *ℤ pos class -ℤ pos 2) *ℤ lv

weight_less : (class : ℕ) → 1 ≤ class → pos (2 * class - 1) ≡ pos 2 *ℤ pos class -ℤ pos 1
weight_less class h = omega (arith, ints, h)

pub corner_is : (m : Mapping) (k class : ℕ) (p l : Place) {au av lu lv u v : ℤ} → IsFrame m.frame → 1 ≤ class → ¬ (length m.rule.limit ≡ 0) → p ≡ place_at m.rule.area k → l ≡ place_at m.rule.limit k →
    IsComputed m p au av → IsComputed m l lu lv → AreMixed class au av lu lv u v → put_at m.frame u v (pos 100000000 *ℤ pos (2 * class - 1)) ≡ corner m k class
unfolding corner mixed
corner_is m k class p l {au} {av} {lu} {lv} {u} {v} f hc hl e g ha hb hm =
    ap (λ (w : ℤ). put_at m.frame u v (pos 100000000 *ℤ w)) (weight_less class hc)
    ∙ put_is m (mixed class (local_of m p) (local_of m l)) u v (pos 100000000 *ℤ (pos 2 *ℤ pos class -ℤ pos 1)) f (omega (arith, ints, hc))
    (subst (λ (z : ℤ). IsOver (mix class (local_of m p).u (local_of m l).u) z (pos 100000000 *ℤ (pos 2 *ℤ pos class -ℤ pos 1) *ℤ m.frame.q)) (sym hm.u_is) (mix_is class m.frame.q (local_of m p).u (local_of m l).u au lu hc (over_u m p au av (unit_positive m.frame (frame_bounds m.frame f)) ha) (over_u m l lu lv (unit_positive m.frame (frame_bounds m.frame f)) hb)))
    (subst (λ (z : ℤ). IsOver (mix class (local_of m p).v (local_of m l).v) z (pos 100000000 *ℤ (pos 2 *ℤ pos class -ℤ pos 1) *ℤ m.frame.q)) (sym hm.v_is) (mix_is class m.frame.q (local_of m p).v (local_of m l).v av lv hc (over_v m p au av (unit_positive m.frame (frame_bounds m.frame f)) ha) (over_v m l lu lv (unit_positive m.frame (frame_bounds m.frame f)) hb)))
    ∙ ap (λ (q : Place). placed m.frame (mixed class (local_of m q) (local_of m l))) e
    ∙ ap (λ (q : Place). placed m.frame (mixed class (local_of m (place_at m.rule.area k)) (local_of m q))) g
    ∙ ap (λ (ls : List Place). placed m.frame (mixed class (local_of m (place_at m.rule.area k)) (local_of m (place_at ls k)))) (sym (narrow_other m.rule.area m.rule.limit hl))

-- a live rule has as many corners in both shapes, where it has a second one
pub as_many : (r : Rule) → ¬ HasBadZone r → ¬ (length r.limit ≡ 0) → length r.limit ≡ length r.area
as_many r good some = elim (eqb_tells (length r.limit) (length r.area)) [ inl e ↦ e.1 | inr e ↦ absurd (good (unequal (omega (arith, some)) e.1)) ]
