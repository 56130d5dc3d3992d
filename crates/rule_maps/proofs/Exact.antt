-- A place that copies a mapped point is placed exactly there: its numerators are d times where the point is seen, and e dot e turns them back. Stands on
-- Compiling and Rounding.
use Prim.Native.Nat.{ℕ, ◌*◌, ◌-◌, ◌≤◌}
use lib.IntN.{ℤ, pos, ◌+ℤ◌, ◌-ℤ◌, ◌*ℤ◌}
use lib.Signed.{◌<ℤ◌}
use lib.ListN.{length}
use mathlib.Core.List.{List, [], ◌∷◌}
use mathlib.Core.Logic.{inl, inr}
use mathlib.Core.Path.{◌≡◌, refl, sym, ap, ◌∙◌, subst}
use native.Mathlib.Omega.{arith}
use Rattle.std.proofs.lemmas.Int.{ints}
use Rattle.std.proofs.lemmas.Bool.Decides.{eqb_tells}
use Rattle.grid_geom.specs.declared.Point.{Point}
use Rattle.grid_geom.proofs.Ring.{var, num, ◌⊕◌, ◌⊖◌, ◌⊗◌, ring}
use Rattle.grid_geom.proofs.Signs.{pos_mul}
use Rattle.rule_reader.specs.declared.rule.Place.{Place}
use Rattle.rule_maps.specs.Fractions.{nearest}
use Rattle.rule_maps.specs.Frame.{LocalFrame, IsFrame, way, dot, cross}
use Rattle.rule_maps.specs.Places.{Mapping, mapped_at, point_at, place_at, narrowest, corner, IsCopyOf}
use Rattle.rule_maps.specs.Sums.{constants_of, numerator, put_at}
use Rattle.rule_maps.proofs.Rounding.{nearest_near, one_nearest}
use Rattle.rule_maps.proofs.Frames.{frame_bounds}
use Rattle.rule_maps.proofs.Putting.{square_positive, point_is}
use Rattle.rule_maps.proofs.Compiling.{corner_alone, corner_is, narrow_other}

-- a whole number is the nearest to itself
nearest_whole : (n t b : ℤ) → pos 0 <ℤ b → t ≡ n *ℤ b → nearest (record { top = t; bottom = b }) ≡ n
nearest_whole n t b hb e = one_nearest (record { top = t; bottom = b }) (nearest (record { top = t; bottom = b })) n (record { positive = hb }) (nearest_near (record { top = t; bottom = b }) (record { positive = hb }))
    (record {
      not_more = omega (arith, ints, e, hb, ring (n ∷ b ∷ []) (num (pos 2) ⊗ var 0 ⊗ var 1) (num (pos 2) ⊗ (var 0 ⊗ var 1)) refl);
      not_less = omega (arith, ints, e, hb, ring (n ∷ b ∷ []) (num (pos 2) ⊗ var 0 ⊗ var 1) (num (pos 2) ⊗ (var 0 ⊗ var 1)) refl);
    })

back_x : (d a b x y : ℤ) → d *ℤ (a *ℤ x +ℤ b *ℤ y) *ℤ a -ℤ d *ℤ (a *ℤ y -ℤ b *ℤ x) *ℤ b ≡ x *ℤ (d *ℤ (a *ℤ a +ℤ b *ℤ b))
back_x d a b x y = ring (d ∷ a ∷ b ∷ x ∷ y ∷ []) (var 0 ⊗ (var 1 ⊗ var 3 ⊕ var 2 ⊗ var 4) ⊗ var 1 ⊖ var 0 ⊗ (var 1 ⊗ var 4 ⊖ var 2 ⊗ var 3) ⊗ var 2) (var 3 ⊗ (var 0 ⊗ (var 1 ⊗ var 1 ⊕ var 2 ⊗ var 2))) refl

back_y : (d a b x y : ℤ) → d *ℤ (a *ℤ x +ℤ b *ℤ y) *ℤ b +ℤ d *ℤ (a *ℤ y -ℤ b *ℤ x) *ℤ a ≡ y *ℤ (d *ℤ (a *ℤ a +ℤ b *ℤ b))
back_y d a b x y = ring (d ∷ a ∷ b ∷ x ∷ y ∷ []) (var 0 ⊗ (var 1 ⊗ var 3 ⊕ var 2 ⊗ var 4) ⊗ var 2 ⊕ var 0 ⊗ (var 1 ⊗ var 4 ⊖ var 2 ⊗ var 3) ⊗ var 1) (var 4 ⊗ (var 0 ⊗ (var 1 ⊗ var 1 ⊕ var 2 ⊗ var 2))) refl

there : (s p : ℤ) {n : ℤ} → n ≡ p -ℤ s → s +ℤ n ≡ p
there s p {n} e = omega (arith, ints, e)

-- d times where p is seen is placed at p
put_exact : (f : LocalFrame) (d : ℤ) (p : Point) {u v : ℤ} → IsFrame f → pos 0 <ℤ d → u ≡ d *ℤ dot f.e (way f.p1 p) → v ≡ d *ℤ cross f.e (way f.p1 p) → put_at f u v d ≡ p
put_exact f d p {u} {v} k hd eu ev = let hb : pos 0 <ℤ (d *ℤ dot f.e f.e) = pos_mul d (dot f.e f.e) hd (square_positive f (frame_bounds f k)) in point_is p
    (there f.p1.x p.x (nearest_whole (p.x -ℤ f.p1.x) (u *ℤ f.e.x -ℤ v *ℤ f.e.y) (d *ℤ dot f.e f.e) hb (rw (eu, ev) (back_x d f.e.x f.e.y (p.x -ℤ f.p1.x) (p.y -ℤ f.p1.y)))))
    (there f.p1.y p.y (nearest_whole (p.y -ℤ f.p1.y) (u *ℤ f.e.y +ℤ v *ℤ f.e.x) (d *ℤ dot f.e f.e) hb (rw (eu, ev) (back_y d f.e.x f.e.y (p.x -ℤ f.p1.x) (p.y -ℤ f.p1.y)))))

-- the numerators of a copy
copied : (x q s : ℤ) → (pos 10000 *ℤ x -ℤ (pos 10000 *ℤ x +ℤ pos 0)) *ℤ q +ℤ pos 10000 *ℤ (pos 10000 *ℤ s +ℤ pos 0) ≡ pos 100000000 *ℤ s
copied x q s = ring (x ∷ q ∷ s ∷ []) ((num (pos 10000) ⊗ var 0 ⊖ (num (pos 10000) ⊗ var 0 ⊕ num (pos 0))) ⊗ var 1 ⊕ num (pos 10000) ⊗ (num (pos 10000) ⊗ var 2 ⊕ num (pos 0))) (num (pos 100000000) ⊗ var 2) refl

copy_u : (m : Mapping) (j : ℕ) (p : Place) → IsCopyOf m.rule.points j p → numerator m.frame m.mapped (constants_of m.rule.points p).x p.row_x ≡ pos 100000000 *ℤ dot m.frame.e (way m.frame.p1 (mapped_at m.mapped j))
copy_u m j p h = rw (h.row_x, h.x) (copied (point_at m.rule.points j).x m.frame.q (dot m.frame.e (way m.frame.p1 (mapped_at m.mapped j))))

copy_v : (m : Mapping) (j : ℕ) (p : Place) → IsCopyOf m.rule.points j p → numerator m.frame m.mapped (constants_of m.rule.points p).y p.row_y ≡ pos 100000000 *ℤ cross m.frame.e (way m.frame.p1 (mapped_at m.mapped j))
copy_v m j p h = rw (h.row_y, h.y) (copied (point_at m.rule.points j).y m.frame.q (cross m.frame.e (way m.frame.p1 (mapped_at m.mapped j))))

weighed : (class : ℕ) (s : ℤ) {a l : ℤ} → 1 ≤ class → a ≡ pos 100000000 *ℤ s → l ≡ pos 100000000 *ℤ s → a +ℤ (pos 2 *ℤ pos class -ℤ pos 2) *ℤ l ≡ pos 100000000 *ℤ pos (2 * class - 1) *ℤ s
weighed class s {a} {l} hc e g = rw (e, g) (added (pos 2 *ℤ pos class -ℤ pos 2) (pos (2 * class - 1)) (omega (arith, ints, hc)))
  where
    added : (w k : ℤ) → k ≡ w +ℤ pos 1 → pos 100000000 *ℤ s +ℤ w *ℤ (pos 100000000 *ℤ s) ≡ pos 100000000 *ℤ k *ℤ s
    added w k i = ring (w ∷ s ∷ []) (num (pos 100000000) ⊗ var 1 ⊕ var 0 ⊗ (num (pos 100000000) ⊗ var 1)) (num (pos 100000000) ⊗ (var 0 ⊕ num (pos 1)) ⊗ var 1) refl ∙ ap (λ (z : ℤ). pos 100000000 *ℤ z *ℤ s) (sym i)

pub corner_exact : (m : Mapping) (k j class : ℕ) → IsFrame m.frame → 1 ≤ class → IsCopyOf m.rule.points j (place_at m.rule.area k) → IsCopyOf m.rule.points j (place_at (narrowest m.rule.area m.rule.limit) k) → corner m k class ≡ mapped_at m.mapped j
corner_exact m k j class f hc ha hl = elim (eqb_tells (length m.rule.limit) 0) [
  | inl e ↦ sym (corner_alone m k class (place_at m.rule.area k) _ _ f hc e.1 refl (record { u_is = refl; v_is = refl })) ∙ put_exact m.frame (pos 100000000) (mapped_at m.mapped j) f (omega (arith, ints)) (copy_u m j (place_at m.rule.area k) ha) (copy_v m j (place_at m.rule.area k) ha)
  | inr e ↦ both (λ z. e.1 z)
]
  where
    both : ¬ (length m.rule.limit ≡ 0) → corner m k class ≡ mapped_at m.mapped j
    both some = let l : Place = place_at m.rule.limit k in let h : IsCopyOf m.rule.points j l = subst (λ (ls : List Place). IsCopyOf m.rule.points j (place_at ls k)) (narrow_other m.rule.area m.rule.limit some) hl in
        sym (corner_is m k class (place_at m.rule.area k) l f hc some refl refl (record { u_is = refl; v_is = refl }) (record { u_is = refl; v_is = refl }) (record { u_is = refl; v_is = refl }))
        ∙ put_exact m.frame (pos 100000000 *ℤ pos (2 * class - 1)) (mapped_at m.mapped j) f (omega (arith, ints, hc)) (weighed class (dot m.frame.e (way m.frame.p1 (mapped_at m.mapped j))) hc (copy_u m j (place_at m.rule.area k) ha) (copy_u m j l h)) (weighed class (cross m.frame.e (way m.frame.p1 (mapped_at m.mapped j))) hc (copy_v m j (place_at m.rule.area k) ha) (copy_v m j l h))
