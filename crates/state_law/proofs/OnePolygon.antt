-- A domain whose boundary is one strictly convex polygon: what a run keeps holds of its opening, the polygon may be glued, and then the front is empty. So the premises of the other laws can be met.
use lib.IntN.{ℤ, pos}
use lib.Signed.{◌<ℤ◌, ◌≤ℤ◌}
use mathlib.Core.Path.{◌≡◌, refl, sym, ap, ◌∙◌, subst}
use mathlib.Core.Bool.{Bool, true, false}
use mathlib.Core.List.{List, [], ◌∷◌}
use mathlib.Core.Logic.{inl, inr}
use native.Mathlib.Omega.{arith}
use Rattle.std.proofs.lemmas.Int.{ints}
use Rattle.std.proofs.lemmas.List.Elements.{All-from_recursion}
use Rattle.std.specs.List.{AllByRecursion}
use Rattle.grid_geom.specs.declared.Point.{Point}
use Rattle.grid_geom.specs.declared.RatPoint.{RatPoint}
use Rattle.grid_geom.specs.declared.Edge.{Edge}
use Rattle.grid_geom.specs.Plane.{orient, orient_rat, IsRational}
use Rattle.grid_geom.specs.Sides.{IsOnOpen}
use Rattle.grid_geom.specs.Polygon.{sides, IsStrictlyConvex, all_left}
use Rattle.grid_geom.specs.Area.{shoelace}
use Rattle.grid_geom.specs.Winding.{wind}
use Rattle.grid_geom.specs.Closed.{IsOff}
use Rattle.wind_law.specs.Chains.{back, same_edge}
use Rattle.wind_law.specs.Centre.{centre}
use Rattle.wind_law.proofs.ClosedSums.{edge_test}
use Rattle.wind_law.proofs.Corners.{IsEndOrLeft}
use Rattle.wind_law.proofs.Polygons.{by_corners, weak_ends, polygon_inside, polygon_outside, sides_closed}
use Rattle.wind_law.proofs.Inside.{centre_in_polygon, centre_rational}
use Rattle.state_law.specs.Free.{IsIn}
use Rattle.state_law.specs.Gluing.{glue, glue_sides, IsClearOf, MayBeGlued}
use Rattle.state_law.specs.Kept.{IsNoneOrOne, IsKept}
use Rattle.state_law.specs.Conforming.{IsBoundary}
use Rattle.state_law.proofs.Lists.{all_map, at_edge}
use Rattle.state_law.proofs.SidesFree.{DoesSee, seen_sides, not_open, not_reversed, sides_edges, sides_untangled}
use Rattle.state_law.proofs.KeptOn.{inside_or_not}
use Rattle.state_law.proofs.Hanging.{each_in}
use Rattle.state_law.proofs.Applied.{opened}

corners_of_side : (cs : List Point) → IsStrictlyConvex cs → AllByRecursion (λ s. AllByRecursion (IsEndOrLeft s) cs) (sides cs)
corners_of_side cs v = by_corners cs v (λ o u w ws f e. subst (λ (l : List Point). AllByRecursion (λ s. AllByRecursion (IsEndOrLeft s) l) (sides l)) (sym e) f.strict)

own_side_clear : (cs : List Point) (e : Edge) → IsStrictlyConvex cs → IsIn e (sides cs) → IsClearOf cs e
own_side_clear cs e v i = record {
  apart = all_left (All-from_recursion (λ c. pos 0 ≤ℤ orient e.a e.b c) cs (weak_ends e cs (at_edge (λ s. AllByRecursion (IsEndOrLeft s) cs) e (sides cs) (corners_of_side cs v) i)));
  ends_off_sides = all_map (λ s. AllByRecursion (DoesSee (centre cs) s) (sides cs)) (λ s. ¬ (IsOnOpen e.a s.a s.b) × ¬ (IsOnOpen e.b s.a s.b)) (λ s h. off s (at_edge (DoesSee (centre cs) s) e (sides cs) h i)) (sides cs) (seen_sides cs v);
  corners_off_line = all_map (IsEndOrLeft e) (λ c. ¬ (IsOnOpen c e.a e.b)) (λ c h o. not_open e c h o.straight o.not_a o.not_b) cs (at_edge (λ s. AllByRecursion (IsEndOrLeft s) cs) e (sides cs) (corners_of_side cs v) i);
  not_backwards = all_map (λ s. pos 0 <ℤ orient_rat s.a s.b (centre cs)) (λ s. ¬ (e ≡ back s)) (λ s h j. not_reversed s e (centre cs) h (at_edge (λ s. pos 0 <ℤ orient_rat s.a s.b (centre cs)) e (sides cs) (centre_in_polygon cs v).left i) (ap (λ (z : Edge). z.a) j) (ap (λ (z : Edge). z.b) j)) (sides cs) (centre_in_polygon cs v).left;
}
  where
    off : (s : Edge) → DoesSee (centre cs) s e → ¬ (IsOnOpen e.a s.a s.b) × ¬ (IsOnOpen e.b s.a s.b)
    off s h = (λ o. not_open s e.a h.start o.straight o.not_a o.not_b, λ o. not_open s e.b h.finish o.straight o.not_a o.not_b)

pub polygon_may : (cs : List Point) → IsStrictlyConvex cs → MayBeGlued cs (sides cs)
polygon_may cs v = record {
  turned = v;
  clear = each_in (IsClearOf cs) (sides cs) (λ e i. own_side_clear cs e v i);
  within = polygon_inside cs (centre cs) v (centre_rational cs v) (centre_in_polygon cs v);
  covered = same (shoelace (sides cs));
}
  where
    same : (z : ℤ) → z ≤ℤ z
    same z = omega (arith, ints)

all_leave : (ss : List Edge) → glue_sides ss ss ≡ []
all_leave [] = refl
all_leave (s ∷ ss) = ap (λ (es : List Edge). glue_sides es ss) (first (same_edge s s) (edge_test.reflexive s)) ∙ all_leave ss
  where
    first : (b : Bool) → b ≡ true → elim b as (λ b. List Edge) [ true ↦ ss | false ↦ s ∷ glue_sides ss (s ∷ []) ] ≡ ss
    first true e = refl
    first false e = absurd (cc)

pub polygon_empties : (cs : List Point) → glue (sides cs) cs ≡ []
polygon_empties cs = all_leave (sides cs)

winds : (cs : List Point) (q : RatPoint) → IsStrictlyConvex cs → IsRational q → IsOff q (sides cs) → IsNoneOrOne (wind q (sides cs))
winds cs q v kq o = elim (inside_or_not q cs) [ inl i ↦ inr (polygon_inside cs q v kq i) | inr n ↦ inl (polygon_outside cs q v kq o n) ]

polygon_boundary : (cs : List Point) → IsStrictlyConvex cs → IsBoundary (sides cs) (sides cs)
polygon_boundary cs v = record {
  edges = sides_edges cs v;
  closed = sides_closed cs;
  untangled = sides_untangled cs v;
  at_most_once = λ q kq o. at_most (winds cs q v kq o);
}
  where
    at_most : {z : ℤ} → IsNoneOrOne z → z ≤ℤ pos 1
    at_most {z} (inl h) = omega (arith, ints)
    at_most {z} (inr h) = omega (arith, ints)

pub polygon_kept : (cs : List Point) → IsStrictlyConvex cs → IsKept (sides cs) (sides cs) (sides cs) []
polygon_kept cs v = opened (sides cs) (sides cs) (sides_edges cs v) (polygon_boundary cs v) (λ q kq o. winds cs q v kq o)
