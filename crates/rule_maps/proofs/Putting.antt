-- What the code of `placing` computes: products of a numerator and a coordinate, and coordinates on the grid. Stands on Frames, Summing and Rounding.
use lib.IntN.{ℤ, pos, ◌+ℤ◌, ◌-ℤ◌, ◌*ℤ◌, neg_ℤ}
use lib.Signed.{◌<ℤ◌, ◌≤ℤ◌, le_z}
use mathlib.Core.Bool.{true, false}
use mathlib.Core.Path.{◌≡◌, refl, sym, ap, ◌∙◌, subst}
use native.Mathlib.Omega.{arith}
use Rattle.std.proofs.lemmas.Int.{ints, to_z-of_z}
use mir.Val.{SFits}
use mir.Syntax.{w64, w128}
use Rattle.grid_geom.specs.declared.Point.{Point}
use Rattle.grid_geom.specs.declared.TheConstants.{GRID}
use Rattle.grid_geom.specs.Bounds.{IsWithin}
use Rattle.grid_geom.proofs.Within.{within_mul}
use Rattle.grid_geom.proofs.Signs.{pos_mul}
use Rattle.grid_geom.proofs.Booleans.{le_true, true_le, clash}
use Rattle.grid_geom.proofs.Quotients.{IsRounded, rounded_within}
use Rattle.rule_maps.specs.declared.frame.TheConstants.{OFFSET}
use Rattle.rule_maps.specs.declared.placing.TheConstants.{MIXED, TOP, BOTTOM}
use Rattle.rule_maps.specs.Fractions.{nearest}
use Rattle.rule_maps.specs.Frame.{LocalFrame, IsWay, dot}
use Rattle.rule_maps.specs.Sums.{put_at}
use Rattle.rule_maps.proofs.Numbers.{within_add, within_sub, fits64, fits128}
use Rattle.rule_maps.proofs.Rounding.{nearest_is}
use Rattle.rule_maps.proofs.Frames.{cast64, cast128, HasBounds}

pub square_positive : (f : LocalFrame) → HasBounds f → pos 0 <ℤ dot f.e f.e
square_positive f b = omega (arith, ints, b.square.least, pos_mul f.len f.len (omega (arith, ints, b.long)) (omega (arith, ints, b.long)))

-- ---- a numerator times a coordinate
spread_within : (u x : ℤ) → IsWithin MIXED u → IsWithin OFFSET x → IsWithin (MIXED *ℤ OFFSET) (u *ℤ x)
spread_within u x hu hx = within_mul MIXED OFFSET u x hu hx

spread_back : (u x : ℤ) → IsWithin MIXED u → IsWithin OFFSET x → cast128 (cast128 u *ℤ cast128 (cast64 x)) ≡ u *ℤ x
spread_back u x hu hx = let f : SFits w128 u = fits128 MIXED u (omega (arith, ints)) hu in let g : SFits w64 x = fits64 OFFSET x (omega (arith, ints)) hx in let h : SFits w128 x = fits128 OFFSET x (omega (arith, ints)) hx in
    let k : SFits w128 (u *ℤ x) = fits128 (MIXED *ℤ OFFSET) (u *ℤ x) (omega (arith, ints)) (spread_within u x hu hx) in simp to_z-of_z

-- what the code computes of a sum of two, or of a difference
pub record IsPart (s y : ℤ) : Type 0 where
  pub fits : SFits w128 s
  pub value : cast128 s ≡ y
  pub small : IsWithin TOP (cast128 s)

part_of : {s y : ℤ} → s ≡ y → IsWithin TOP y → IsPart s y
part_of {s} {y} e h = subst (λ (z : ℤ). IsPart z y) (sym e) (let f : SFits w128 y = fits128 TOP y (omega (arith, ints)) h in record { fits = f; value = simp to_z-of_z; small = simp to_z-of_z h })

pub across_is : (u v : ℤ) (e : Point) → IsWithin MIXED u → IsWithin MIXED v → IsWay e → IsPart (cast128 (cast128 u *ℤ cast128 (cast64 e.x)) -ℤ cast128 (cast128 v *ℤ cast128 (cast64 e.y))) (u *ℤ e.x -ℤ v *ℤ e.y)
across_is u v e hu hv he = part_of (rw (spread_back u e.x hu he.x_within, spread_back v e.y hv he.y_within) refl) (within_sub (MIXED *ℤ OFFSET) (MIXED *ℤ OFFSET) (u *ℤ e.x) (v *ℤ e.y) (spread_within u e.x hu he.x_within) (spread_within v e.y hv he.y_within))

pub upward_is : (u v : ℤ) (e : Point) → IsWithin MIXED u → IsWithin MIXED v → IsWay e → IsPart (cast128 (cast128 u *ℤ cast128 (cast64 e.y)) +ℤ cast128 (cast128 v *ℤ cast128 (cast64 e.x))) (u *ℤ e.y +ℤ v *ℤ e.x)
upward_is u v e hu hv he = part_of (rw (spread_back u e.y hu he.y_within, spread_back v e.x hv he.x_within) refl) (within_add (MIXED *ℤ OFFSET) (MIXED *ℤ OFFSET) (u *ℤ e.y) (v *ℤ e.x) (spread_within u e.y hu he.y_within) (spread_within v e.x hv he.x_within))

-- ---- a coordinate and a rounded quotient
pub record IsSum (from top bottom s : ℤ) : Type 0 where
  pub fits : SFits w128 s
  pub value : cast128 s ≡ from +ℤ nearest (record { top = top; bottom = bottom })

plainly : (top bottom r : ℤ) → IsWithin TOP top → pos 0 <ℤ bottom → bottom ≤ℤ BOTTOM →
    (pos 2 *ℤ cast128 bottom *ℤ r) ≤ℤ (pos 2 *ℤ cast128 top +ℤ cast128 bottom) → (pos 2 *ℤ cast128 top +ℤ cast128 bottom) <ℤ (pos 2 *ℤ cast128 bottom *ℤ (r +ℤ pos 1)) → IsRounded top bottom r
plainly top bottom r ht hp hb h j =
    let f : SFits w128 top = fits128 TOP top (omega (arith, ints)) ht in
    let g : SFits w128 bottom = omega (arith, ints, hp, hb) in
    record { least = simp to_z-of_z at h; greatest = simp to_z-of_z at j }

pub rounded_small : (top bottom r : ℤ) → IsWithin TOP top → pos 0 <ℤ bottom → bottom ≤ℤ BOTTOM →
    (pos 2 *ℤ cast128 bottom *ℤ r) ≤ℤ (pos 2 *ℤ cast128 top +ℤ cast128 bottom) → (pos 2 *ℤ cast128 top +ℤ cast128 bottom) <ℤ (pos 2 *ℤ cast128 bottom *ℤ (r +ℤ pos 1)) → IsWithin TOP r
rounded_small top bottom r ht hp hb h j = rounded_within top bottom r TOP hp (plainly top bottom r ht hp hb h j) (omega (arith, ints, ht.least, hp)) (omega (arith, ints, ht.greatest, hp))

pub rounded_value : (top bottom r : ℤ) → IsWithin TOP top → pos 0 <ℤ bottom → bottom ≤ℤ BOTTOM →
    (pos 2 *ℤ cast128 bottom *ℤ r) ≤ℤ (pos 2 *ℤ cast128 top +ℤ cast128 bottom) → (pos 2 *ℤ cast128 top +ℤ cast128 bottom) <ℤ (pos 2 *ℤ cast128 bottom *ℤ (r +ℤ pos 1)) → cast128 r ≡ nearest (record { top = top; bottom = bottom })
rounded_value top bottom r ht hp hb h j =
    let k : SFits w128 r = fits128 TOP r (omega (arith, ints)) (rounded_small top bottom r ht hp hb h j) in
    let back : cast128 r ≡ r = simp to_z-of_z in
    back ∙ nearest_is (record { top = top; bottom = bottom }) r hp (plainly top bottom r ht hp hb h j)

pub sum_of_rounded : (from top bottom : ℤ) {r : ℤ} → IsWithin GRID from → r ≡ nearest (record { top = top; bottom = bottom }) → IsWithin TOP r → IsSum from top bottom (cast128 (cast64 from) +ℤ cast128 r)
sum_of_rounded from top bottom {r} hf e small = subst (λ (z : ℤ). IsSum from top bottom z) (sym inner) (record { fits = fits; value = let f : SFits w128 (from +ℤ r) = fits in subst (λ (z : ℤ). cast128 (from +ℤ r) ≡ from +ℤ z) e (simp to_z-of_z) })
  where
    inner : cast128 (cast64 from) +ℤ cast128 r ≡ from +ℤ r
    inner = let f : SFits w64 from = fits64 GRID from (omega (arith, ints)) hf in let g : SFits w128 from = fits128 GRID from (omega (arith, ints)) hf in let k : SFits w128 r = fits128 TOP r (omega (arith, ints)) small in simp to_z-of_z

    fits : SFits w128 (from +ℤ r)
    fits = fits128 (GRID +ℤ TOP) (from +ℤ r) (omega (arith, ints)) (within_add GRID TOP from r hf small)

-- where it is on the grid
pub on_back : {s y : ℤ} → s ≡ y → IsWithin GRID y → cast64 s ≡ y
on_back {s} {y} e h = subst (λ (z : ℤ). cast64 z ≡ y) (sym e) (let f : SFits w64 y = fits64 GRID y (omega (arith, ints)) h in simp to_z-of_z)

-- ---- both coordinates: what the code says of them, with the casts of their quotients
cast_is : (m z y : ℤ) → m ≤ℤ pos 170141183460469231731687303715884105727 → z ≡ y → IsWithin m z → cast128 z ≡ y
cast_is m z y h e hz = let f : SFits w128 z = fits128 m z h hz in subst (λ (w : ℤ). cast128 z ≡ w) e (simp to_z-of_z)

quotient_is : {p r t b t' b' : ℤ} → p ≡ r → t ≡ t' → IsWithin TOP t → b ≡ b' → pos 0 <ℤ b → b ≤ℤ BOTTOM → p +ℤ nearest (record { top = cast128 t; bottom = cast128 b }) ≡ r +ℤ nearest (record { top = t'; bottom = b' })
quotient_is {p} {r} {t} {b} {t'} {b'} e et ht eb hp hb = rw (e, cast_is TOP t t' (omega (arith, ints)) et ht, cast_is BOTTOM b b' (omega (arith, ints)) eb (record { least = omega (arith, ints, hp); greatest = hb })) refl

pub put_x : (f : LocalFrame) (u v d : ℤ) {p e : Point} {t b : ℤ} → p ≡ f.p1 → e ≡ f.e → t ≡ u *ℤ e.x -ℤ v *ℤ e.y → IsWithin TOP t → b ≡ d *ℤ dot f.e f.e → pos 0 <ℤ b → b ≤ℤ BOTTOM → p.x +ℤ nearest (record { top = cast128 t; bottom = cast128 b }) ≡ (put_at f u v d).x
put_x f u v d {p} {e} {t} {b} hp he ht hs hb hl hg = quotient_is (ap (λ (w : Point). w.x) hp) (ht ∙ ap (λ (w : Point). u *ℤ w.x -ℤ v *ℤ w.y) he) hs hb hl hg

pub put_y : (f : LocalFrame) (u v d : ℤ) {p e : Point} {t b : ℤ} → p ≡ f.p1 → e ≡ f.e → t ≡ u *ℤ e.y +ℤ v *ℤ e.x → IsWithin TOP t → b ≡ d *ℤ dot f.e f.e → pos 0 <ℤ b → b ≤ℤ BOTTOM → p.y +ℤ nearest (record { top = cast128 t; bottom = cast128 b }) ≡ (put_at f u v d).y
put_y f u v d {p} {e} {t} {b} hp he ht hs hb hl hg = quotient_is (ap (λ (w : Point). w.y) hp) (ht ∙ ap (λ (w : Point). u *ℤ w.y +ℤ v *ℤ w.x) he) hs hb hl hg

on_of : {s from top bottom : ℤ} → IsSum from top bottom s → neg_ℤ GRID ≤ℤ cast128 s → cast128 s ≤ℤ GRID → IsWithin GRID (from +ℤ nearest (record { top = top; bottom = bottom }))
on_of {s} h a b = record { least = subst (λ (z : ℤ). neg_ℤ GRID ≤ℤ z) h.value a; greatest = subst (λ (z : ℤ). z ≤ℤ GRID) h.value b }

-- the tests that the code makes
pub record IsCoordinate (from top bottom s : ℤ) : Type 0 where
  pub value : cast64 (cast128 s) ≡ from +ℤ nearest (record { top = top; bottom = bottom })
  pub on : IsWithin GRID (cast64 (cast128 s))

pub coordinate_on : {s from top bottom : ℤ} → IsSum from top bottom s → le_z (neg_ℤ GRID) (cast128 s) ≡ true → le_z (cast128 s) GRID ≡ true → IsCoordinate from top bottom s
coordinate_on {s} {from} {top} {bottom} h a b = record { value = back; on = rw back on }
  where
    on : IsWithin GRID (from +ℤ nearest (record { top = top; bottom = bottom }))
    on = on_of h (le_true (neg_ℤ GRID) (cast128 s) a) (le_true (cast128 s) GRID b)

    back : cast64 (cast128 s) ≡ from +ℤ nearest (record { top = top; bottom = bottom })
    back = on_back h.value on

pub too_low : {s from top bottom : ℤ} → IsSum from top bottom s → le_z (neg_ℤ GRID) (cast128 s) ≡ false → IsWithin GRID (from +ℤ nearest (record { top = top; bottom = bottom })) → ⊥
too_low {s} h a on = clash (le_z (neg_ℤ GRID) (cast128 s)) a (true_le (neg_ℤ GRID) (cast128 s) (subst (λ (z : ℤ). neg_ℤ GRID ≤ℤ z) (sym h.value) on.least))

pub too_high : {s from top bottom : ℤ} → IsSum from top bottom s → le_z (cast128 s) GRID ≡ false → IsWithin GRID (from +ℤ nearest (record { top = top; bottom = bottom })) → ⊥
too_high {s} h a on = clash (le_z (cast128 s) GRID) a (true_le (cast128 s) GRID (subst (λ (z : ℤ). z ≤ℤ GRID) (sym h.value) on.greatest))

pub point_is : {x y : ℤ} (p : Point) → x ≡ p.x → y ≡ p.y → ◌≡◌ {A = Point} (record { x = x; y = y }) p
point_is {x} {y} p h j = ap (λ (z : ℤ). record { x = z; y = y }) h ∙ ap (λ (z : ℤ). record { x = p.x; y = z }) j
