-- A triangle is an opening, and the element of its three corners may be glued to it: so the conditions of `open` and `glue` can be met.
use lib.IntN.{pos}
use lib.Signed.{◌<ℤ◌}
use mathlib.Core.Path.{◌≡◌, refl, sym, subst}
use mathlib.Core.List.{List, [], ◌∷◌}
use native.Mathlib.Omega.{arith}
use Rattle.std.proofs.lemmas.Int.{ints}
use Rattle.std.proofs.lemmas.List.Elements.{All-from_recursion}
use lib.ListN.{length}
use Rattle.std.specs.List.{AllByRecursion, IsDistinct}
use Rattle.grid_geom.specs.Closed.{same_point}
use Rattle.grid_geom.specs.declared.Point.{Point}
use Rattle.grid_geom.specs.declared.TheConstants.{GRID}
use Rattle.grid_geom.specs.Bounds.{IsOnGrid, IsWithin}
use Rattle.grid_geom.specs.Polygon.{sides, IsStrictlyConvex}
use Rattle.grid_geom.proofs.Convex.{triangle_convex}
use Rattle.state_law.specs.State.{corners_of, front_edges, IsListed}
use Rattle.state_law.specs.Gluing.{MayBeGlued}
use Rattle.state_law.specs.Worked.{place, worked}
use Rattle.state_law.proofs.OnePolygon.{polygon_kept, polygon_may}
use Rattle.state_law.proofs.Region.{region_of}
use Rattle.front_chain.specs.Front.{FrontState, IsOpening, IsGluable}
use Rattle.front_chain.specs.Worked.{triangle_points, triangle_lines}

positive : pos 0 <ℤ pos 409600000000
positive = omega (arith, ints)

convex : IsStrictlyConvex triangle_points
convex = triangle_convex (place 0 0) (place 640000 0) (place 0 640000) positive

different : IsDistinct same_point triangle_points
unfolding IsDistinct
different = ((refl, (refl, tt)), ((refl, tt), (tt, tt)))

pub triangle_opens : IsOpening triangle_points triangle_lines
triangle_opens = record {
  numbered = record { different = different; lines_listed = (((omega arith, omega arith), (omega arith, omega arith)), (((omega arith, omega arith), (omega arith, omega arith)), (((omega arith, omega arith), (omega arith, omega arith)), tt))) };
  on_grid = All-from_recursion IsOnGrid triangle_points (record { x_within = small; y_within = small }, (record { x_within = large; y_within = small }, (record { x_within = small; y_within = large }, tt)));
  region = region_of (sides triangle_points) (sides triangle_points) (sides triangle_points) [] (polygon_kept triangle_points convex);
  bounded = omega arith;
}
  where
    small : IsWithin GRID (pos 0)
    small = record { least = omega (arith, ints); greatest = omega (arith, ints) }

    large : IsWithin GRID (pos 640000)
    large = record { least = omega (arith, ints); greatest = omega (arith, ints) }

pub triangle_gluable : (f : FrontState) → f.points ≡ triangle_points → f.lines ≡ worked.front → IsGluable f (1 ∷ 2 ∷ 3 ∷ [])
triangle_gluable f e g = record {
  few = omega arith;
  listed = subst (λ ps. AllByRecursion (IsListed (length ps)) (1 ∷ 2 ∷ 3 ∷ [])) (sym e) ((omega arith, omega arith), ((omega arith, omega arith), ((omega arith, omega arith), tt)));
  may = subst (λ (ps : List Point). MayBeGlued (corners_of ps (1 ∷ 2 ∷ 3 ∷ [])) (front_edges ps f.lines)) (sym e)
      (subst (λ ls. MayBeGlued (corners_of triangle_points (1 ∷ 2 ∷ 3 ∷ [])) (front_edges triangle_points ls)) (sym g) (polygon_may triangle_points convex));
}
