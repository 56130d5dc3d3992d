-- A segment that enters an open polygon has a box that meets each box which holds the polygon's corners. Stands on grid_geom's Polygon: a line with all corners on its closed left has the polygon's points there.
use lib.IntN.{ℤ, pos, negsuc, ◌-ℤ◌, ◌*ℤ◌}
use lib.Signed.{◌<ℤ◌, ◌≤ℤ◌}
use mathlib.Core.Path.{◌≡◌, refl, sym, subst}
use mathlib.Core.List.{List, [], ◌∷◌}
use native.Mathlib.Omega.{arith}
use Rattle.std.proofs.lemmas.Int.{ints, clamps}
use Rattle.std.specs.Int.{int_max, int_min}
use Rattle.std.specs.List.{AllByRecursion}
use Rattle.grid_geom.specs.declared.Point.{Point}
use Rattle.grid_geom.specs.declared.RatPoint.{RatPoint}
use Rattle.grid_geom.specs.Plane.{orient_rat}
use Rattle.grid_geom.specs.Line.{Line, side, whole}
use Rattle.grid_geom.specs.Sides.{DoBoxesMeet}
use Rattle.grid_geom.specs.Polygon.{sides, IsStrictlyConvex, IsInPolygon, DoesEnter}
use Rattle.grid_geom.proofs.Ring.{var, num, ◌⊖◌, ◌⊗◌, ring}
use Rattle.grid_geom.proofs.Signs.{le_cancel}
use Rattle.grid_geom.proofs.Convex.{inside_lines}
use Rattle.grid_geom.proofs.Polygon.{weakly_left}
use Rattle.wind_law.proofs.Polygons.{by_corners}
use Rattle.state_law.specs.Saved.{AreInBox}
use Rattle.state_law.proofs.Lists.{all_map}

-- a line with all corners on its closed left
pub kept_left : (l : Line) (cs : List Point) (q : RatPoint) → IsStrictlyConvex cs → AllByRecursion (λ c. pos 0 ≤ℤ side l (whole c)) cs → IsInPolygon q cs → pos 0 ≤ℤ side l q
kept_left l cs q v h i = by_corners cs v (λ o u w ws f e. subst (λ (k : List Point). AllByRecursion (λ c. pos 0 ≤ℤ side l (whole c)) k → AllByRecursion (λ e. pos 0 <ℤ orient_rat e.a e.b q) (sides k) → pos 0 ≤ℤ side l q) (sym e)
    (λ a j. weakly_left l o u (w ∷ ws) q (record { fan = f.fan }) a.0 a.1.0 a.1.1 (inside_lines q (sides (o ∷ u ∷ w ∷ ws)) j)) h i.left)

-- the four lines of a box
abbrev pub right_from : ℤ → Line
right_from m = record { a = pos 1; b = pos 0; c = pos 0 -ℤ m }

abbrev pub left_from : ℤ → Line
left_from m = record { a = negsuc 0; b = pos 0; c = m }

abbrev pub up_from : ℤ → Line
up_from m = record { a = pos 0; b = pos 1; c = pos 0 -ℤ m }

abbrev pub down_from : ℤ → Line
down_from m = record { a = pos 0; b = negsuc 0; c = m }

pub minus_times : (m k : ℤ) → (pos 0 -ℤ m) *ℤ k ≡ pos 0 -ℤ m *ℤ k
minus_times m k = ring (m ∷ k ∷ []) ((num (pos 0) ⊖ var 0) ⊗ var 1) (num (pos 0) ⊖ var 0 ⊗ var 1) refl

pub at_right : (m : ℤ) (c : Point) → m ≤ℤ c.x → pos 0 ≤ℤ side (right_from m) (whole c)
at_right m c h = omega (arith, ints)

pub at_left : (m : ℤ) (c : Point) → c.x ≤ℤ m → pos 0 ≤ℤ side (left_from m) (whole c)
at_left m c h = omega (arith, ints)

pub at_up : (m : ℤ) (c : Point) → m ≤ℤ c.y → pos 0 ≤ℤ side (up_from m) (whole c)
at_up m c h = omega (arith, ints)

pub at_down : (m : ℤ) (c : Point) → c.y ≤ℤ m → pos 0 ≤ℤ side (down_from m) (whole c)
at_down m c h = omega (arith, ints)

pub entered_boxes : (a b lo hi : Point) (cs : List Point) → IsStrictlyConvex cs → AreInBox lo hi cs → DoesEnter a b cs → DoBoxesMeet a b lo hi
entered_boxes a b lo hi cs v h d = record {
  columns = record {
    not_after = top (int_min a.x b.x) lo.x hi.x (le_cancel (int_min a.x b.x) hi.x k d.rational.positive (omega (arith, ints, d.on.right_of_least, kept_left (left_from hi.x) cs d.at v (all_map (λ c. c.x ≤ℤ hi.x) (λ c. pos 0 ≤ℤ side (left_from hi.x) (whole c)) (at_left hi.x) cs h.left_of_greatest) d.inside)));
    not_before = bottom lo.x hi.x (int_max a.x b.x) (le_cancel lo.x (int_max a.x b.x) k d.rational.positive (omega (arith, ints, d.on.left_of_greatest, minus_times lo.x k, kept_left (right_from lo.x) cs d.at v (all_map (λ c. lo.x ≤ℤ c.x) (λ c. pos 0 ≤ℤ side (right_from lo.x) (whole c)) (at_right lo.x) cs h.right_of_least) d.inside)));
  };
  rows = record {
    not_after = top (int_min a.y b.y) lo.y hi.y (le_cancel (int_min a.y b.y) hi.y k d.rational.positive (omega (arith, ints, d.on.above_least, kept_left (down_from hi.y) cs d.at v (all_map (λ c. c.y ≤ℤ hi.y) (λ c. pos 0 ≤ℤ side (down_from hi.y) (whole c)) (at_down hi.y) cs h.below_greatest) d.inside)));
    not_before = bottom lo.y hi.y (int_max a.y b.y) (le_cancel lo.y (int_max a.y b.y) k d.rational.positive (omega (arith, ints, d.on.below_greatest, minus_times lo.y k, kept_left (up_from lo.y) cs d.at v (all_map (λ c. lo.y ≤ℤ c.y) (λ c. pos 0 ≤ℤ side (up_from lo.y) (whole c)) (at_up lo.y) cs h.above_least) d.inside)));
  };
}
  where
    k : ℤ
    k = d.at.k

    top : (m u w : ℤ) → m ≤ℤ w → m ≤ℤ int_max u w
    top m u w h = omega (arith, ints, clamps)

    bottom : (u w m : ℤ) → u ≤ℤ m → int_min u w ≤ℤ m
    bottom u w m h = omega (arith, ints, clamps)
