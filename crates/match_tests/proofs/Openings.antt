-- The fronts of the tests: the sides of polygons of three and four corners are openings; an admitted element may be glued.
use lib.IntN.{ℤ, pos, negsuc}
use lib.Signed.{◌≤ℤ◌}
use Prim.Native.Nat.{ℕ, ◌+◌, ◌*◌, ◌-◌, ◌^◌, ◌≤◌}
use mathlib.Core.Path.{◌≡◌, refl, sym, ap, subst, ◌∙◌}
use mathlib.Core.List.{List, [], ◌∷◌, ◌++◌}
use Rattle.std.specs.Prelude.{true, length}
use Rattle.std.specs.List.{IsDistinct}
use native.Mathlib.Omega.{arith}
use Rattle.std.proofs.lemmas.Int.{ints}
use Rattle.grid_geom.specs.declared.Point.{Point}
use Rattle.grid_geom.specs.Area.{shoelace}
use Rattle.grid_geom.specs.Closed.{same_point}
use Rattle.grid_geom.specs.Polygon.{sides}
use Rattle.state_law.proofs.OnePolygon.{polygon_kept}
use Rattle.state_law.proofs.Region.{region_of}
use Rattle.front_chain.specs.Front.{FrontState, IsGluable, IsOpening, or_zero}
use Rattle.admission.specs.Around.{AreListed}
use Rattle.admission.specs.Admission.{entered, MayFollow}
use Rattle.admission.proofs.Answered.{gluable}
use Rattle.rule_match.specs.Applied.{are_new, do_differ}
use Rattle.rule_match.proofs.GluedParts.{all_distinct}
use Rattle.match_tests.specs.Polygons.{IsPolygon}

-- there is room for the numbers of the lines to come
has_room : (n : ℕ) (z : ℤ) → n ≤ 4 → z ≤ℤ pos (2 ^ 50) → n + 4 * or_zero z ≤ 2 ^ 64 - 2
has_room n (pos k) f h = omega (arith, ints, f, h)
has_room n (negsuc k) f h = omega (arith, f)

pub three_open : (a b c : Point) → IsPolygon (a ∷ b ∷ c ∷ []) → IsOpening (a ∷ b ∷ c ∷ []) ((1, 2) ∷ (2, 3) ∷ (3, 1) ∷ [])
three_open a b c h = record {
  numbered = record {
    different = h.different;
    lines_listed = (((omega arith, omega arith), (omega arith, omega arith)), (((omega arith, omega arith), (omega arith, omega arith)), (((omega arith, omega arith), (omega arith, omega arith)), tt)));
  };
  on_grid = h.on_grid;
  region = region_of (sides corners) (sides corners) (sides corners) [] (polygon_kept corners h.convex);
  bounded = has_room 3 (shoelace (sides corners)) (omega arith) h.small;
}
  where
    corners : List Point
    corners = a ∷ b ∷ c ∷ []

pub four_open : (a b c d : Point) → IsPolygon (a ∷ b ∷ c ∷ d ∷ []) → IsOpening (a ∷ b ∷ c ∷ d ∷ []) ((1, 2) ∷ (2, 3) ∷ (3, 4) ∷ (4, 1) ∷ [])
four_open a b c d h = record {
  numbered = record {
    different = h.different;
    lines_listed = (((omega arith, omega arith), (omega arith, omega arith)), (((omega arith, omega arith), (omega arith, omega arith)), (((omega arith, omega arith), (omega arith, omega arith)), (((omega arith, omega arith), (omega arith, omega arith)), tt))));
  };
  on_grid = h.on_grid;
  region = region_of (sides corners) (sides corners) (sides corners) [] (polygon_kept corners h.convex);
  bounded = has_room 4 (shoelace (sides corners)) (omega arith) h.small;
}
  where
    corners : List Point
    corners = a ∷ b ∷ c ∷ d ∷ []

-- ---- places that differ
none_before : (made : List Point) → are_new [] made ≡ true
none_before [] = refl
none_before (p ∷ made) = none_before made

none_listed : IsDistinct same_point []
unfolding IsDistinct
none_listed = tt

pub all_differ : (made : List Point) → do_differ made ≡ true → IsDistinct same_point made
all_differ made h = all_distinct [] made none_listed (none_before made) h

-- ---- an element that may follow may be glued, once memory is taken
no_more : (ps : List Point) → ps ≡ ps ++ []
no_more [] = refl
no_more (p ∷ ps) = ap (λ (qs : List Point). p ∷ qs) (no_more ps)

pub one_gluable : (f g : FrontState) (ns : List ℕ) → MayFollow (entered f []) (ns ∷ []) → length ns ≡ 3 → AreListed (length f.points) ns → g.points ≡ f.points → g.lines ≡ f.lines → g.next ≡ f.next → IsGluable g ns
one_gluable f g ns m e l points lines next = gluable f g [] [] [] ns m (record { points = points ∙ no_more f.points; lines = lines; next = next }) e (subst (λ (ps : List Point). AreListed (length ps) ns) (sym points) l)
