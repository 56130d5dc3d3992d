-- Elements glued to fronts. A front is here the list of its lines as edges between places, an element the list of its corners.
-- Origin: the advancing front of Schoeberl 1997, with this project's own tests. The code asks near lines alone, except for clauses 5 and 6.
use lib.IntN.{pos}
use lib.Signed.{◌≤ℤ◌}
use mathlib.Core.Path.{◌≡◌}
use mathlib.Core.Bool.{true, false}
use mathlib.Core.List.{List, [], ◌∷◌}
use Rattle.std.specs.List.{AllByRecursion}
use Rattle.grid_geom.specs.declared.Point.{Point}
use Rattle.grid_geom.specs.declared.Edge.{Edge}
use Rattle.grid_geom.specs.Sides.{IsOnOpen}
use Rattle.grid_geom.specs.Polygon.{sides, IsStrictlyConvex, IsApart}
use Rattle.grid_geom.specs.Area.{shoelace}
use Rattle.grid_geom.specs.Winding.{wind}
use Rattle.wind_law.specs.Chains.{back, same_edge}
use Rattle.wind_law.specs.Centre.{centre}

-- a side that is a front line leaves, any other joins reversed at the end
abbrev pub glue_side : List Edge → Edge → List Edge
glue_side [] s = back s ∷ []
glue_side (e ∷ es) s = elim (same_edge e s) [ true ↦ es | false ↦ e ∷ glue_side es s ]

-- one side after another
abbrev pub glue_sides : List Edge → List Edge → List Edge
glue_sides front [] = front
glue_sides front (s ∷ ss) = glue_sides (glue_side front s) ss

-- the front after the element is glued
abbrev pub glue : List Edge → List Point → List Edge
glue front corners = glue_sides front (sides corners)

-- the front line e does not hinder the element: clauses 2, 3 and 4 of the gluing, for one line
-- 2. the line is apart from the open element
-- 3. no end of the line is in an open side of the element, and no corner of the element in the open line
-- 4. the line is no side of the element reversed
pub record IsClearOf (corners : List Point) (e : Edge) : Type 0 where
  pub apart : IsApart e.a e.b corners
  pub ends_off_sides : AllByRecursion (λ s. ¬ (IsOnOpen e.a s.a s.b) × ¬ (IsOnOpen e.b s.a s.b))
      (sides corners)
  pub corners_off_line : AllByRecursion (λ c. ¬ (IsOnOpen c e.a e.b)) corners
  pub not_backwards : AllByRecursion (λ s. ¬ (e ≡ back s)) (sides corners)

-- the element may be glued to the front
-- 1. it is strictly convex, counterclockwise: of a triangle, that it is positively turned
-- 2. to 4. each front line is clear of it
-- 5. the front winds once round its centre, the sum of the corners over their number
-- 6. its doubled area is at most the front's
pub record MayBeGlued (corners : List Point) (front : List Edge) : Type 0 where
  pub turned : IsStrictlyConvex corners
  pub clear : AllByRecursion (IsClearOf corners) front
  pub within : wind (centre corners) front ≡ pos 1
  pub covered : shoelace (sides corners) ≤ℤ shoelace front

-- the front after the elements are glued one after another, and that they may be
abbrev pub glue_all : List Edge → List (List Point) → List Edge
glue_all front [] = front
glue_all front (cs ∷ elements) = glue_all (glue front cs) elements

abbrev pub MayAllBeGlued : List (List Point) → List Edge → Type 0
MayAllBeGlued [] front = Unit {0}
MayAllBeGlued (cs ∷ elements) front = MayBeGlued cs front × MayAllBeGlued elements (glue front cs)
