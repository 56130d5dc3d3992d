-- The half-open crossing rule: what one edge, from height u to height w, gives at height y with the point on the side o of it.
-- Everything here is about four whole numbers, but for the last lemma; it stands on nothing.
use lib.IntN.{ℤ, pos, negsuc, ◌-ℤ◌, ◌*ℤ◌}
use lib.Signed.{◌<ℤ◌, ◌≤ℤ◌, lt_z}
use mathlib.Core.Path.{◌≡◌, ap, ◌∙◌}
use mathlib.Core.Bool.{cond}
use mathlib.Core.Logic.{inl, inr}
use native.Mathlib.Omega.{arith}
use Rattle.std.proofs.lemmas.Int.{ints}
use Rattle.grid_geom.specs.declared.Point.{Point}
use Rattle.grid_geom.specs.declared.RatPoint.{RatPoint}
use Rattle.wind_law.specs.Chains.{edge}
use Rattle.grid_geom.specs.Plane.{orient_rat}
use Rattle.grid_geom.specs.Winding.{cross_of, cross}
use Rattle.grid_geom.proofs.Lines.{orient_back}
use Rattle.grid_geom.proofs.Signs.{either}

-- 1 where w is above the height y, else 0
abbrev pub over : ℤ → ℤ → ℤ
over y w = cond (lt_z y w) (pos 1) (pos 0)

-- a rising edge with the point on its left counts 1, a falling one with the point on its right -1: where the sides are so, the crossing is told by the heights alone
pub cross_all : (u w y o : ℤ) → (u ≤ℤ y → y <ℤ w → pos 0 <ℤ o) → (w ≤ℤ y → y <ℤ u → o <ℤ pos 0) → cross_of u w y o ≡ over y w -ℤ over y u
cross_all u w y o h j = grind (arith, ints)

-- where the sides are the other ones, there is no crossing
pub cross_none : (u w y o : ℤ) → (u ≤ℤ y → y <ℤ w → o ≤ℤ pos 0) → (w ≤ℤ y → y <ℤ u → pos 0 ≤ℤ o) → cross_of u w y o ≡ pos 0
cross_none u w y o h j = grind (arith, ints)

-- both ends above, or neither
pub both_above : (u w y o : ℤ) → y <ℤ u → y <ℤ w → cross_of u w y o ≡ pos 0
both_above u w y o h j = grind (arith, ints)

pub neither_above : (u w y o : ℤ) → u ≤ℤ y → w ≤ℤ y → cross_of u w y o ≡ pos 0
neither_above u w y o h j = grind (arith, ints)

pub level_edge : (u w y o : ℤ) → w ≡ u → cross_of u w y o ≡ pos 0
level_edge u w y o e = elim (either u y) [ inl a ↦ neither_above u w y o a (omega (arith, ints)) | inr a ↦ both_above u w y o a (omega (arith, ints)) ]

-- a rising and a falling edge, with the point strictly left, then strictly right
pub rising_left : (u w y o : ℤ) → pos 0 <ℤ o → u ≤ℤ y → y <ℤ w → cross_of u w y o ≡ pos 1
rising_left u w y o h i j = grind (arith, ints)

pub falling_left : (u w y o : ℤ) → pos 0 <ℤ o → w ≤ℤ y → y <ℤ u → cross_of u w y o ≡ pos 0
falling_left u w y o h i j = grind (arith, ints)

pub rising_right : (u w y o : ℤ) → o <ℤ pos 0 → u ≤ℤ y → y <ℤ w → cross_of u w y o ≡ pos 0
rising_right u w y o h i j = grind (arith, ints)

pub falling_right : (u w y o : ℤ) → o <ℤ pos 0 → w ≤ℤ y → y <ℤ u → cross_of u w y o ≡ negsuc 0
falling_right u w y o h i j = grind (arith, ints)

-- two rising edges that have the point on one side count alike
pub rising_alike : (u w z v y o n : ℤ) → u ≤ℤ y → y <ℤ w → z ≤ℤ y → y <ℤ v → (pos 0 <ℤ o → pos 0 <ℤ n) → (o ≤ℤ pos 0 → n ≤ℤ pos 0) → cross_of z v y n ≡ cross_of u w y o
rising_alike u w z v y o n a b c d h j = grind (arith, ints)

-- an edge and its reverse add up to 0
cross_of_back : (u w y o : ℤ) → cross_of w u y (pos 0 -ℤ o) ≡ pos 0 -ℤ cross_of u w y o
cross_of_back u w y o = grind (arith, ints)

pub cross_back : (q : RatPoint) (a b : Point) → cross q (edge b a) ≡ pos 0 -ℤ cross q (edge a b)
cross_back q a b = ap (cross_of (b.y *ℤ q.k) (a.y *ℤ q.k) q.y) (orient_back a b q) ∙ cross_of_back (a.y *ℤ q.k) (b.y *ℤ q.k) q.y (orient_rat a b q)
