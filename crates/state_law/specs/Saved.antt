-- Places that elements and front lines have.
use lib.Signed.{◌≤ℤ◌}
use mathlib.Core.Path.{◌≡◌}
use mathlib.Core.List.{List, [], ◌∷◌}
use mathlib.Core.Logic.{◌⊎◌}
use Rattle.std.specs.List.{AllByRecursion}
use Rattle.grid_geom.specs.declared.Point.{Point}
use Rattle.grid_geom.specs.declared.Edge.{Edge}

-- c is a corner of the polygon
abbrev pub IsCorner : Point → List Point → Type 0
IsCorner c [] = ⊥
IsCorner c (d ∷ ds) = (d ≡ c) ⊎ IsCorner c ds

-- the polygon is one of the elements
abbrev pub IsElement : List Point → List (List Point) → Type 0
IsElement ds [] = ⊥
IsElement ds (cs ∷ elements) = (cs ≡ ds) ⊎ IsElement ds elements

-- c is a corner of one of the elements
abbrev pub IsElementCorner : Point → List (List Point) → Type 0
IsElementCorner c [] = ⊥
IsElementCorner c (cs ∷ elements) = IsCorner c cs ⊎ IsElementCorner c elements

-- p is an end of a front line
abbrev pub IsFrontPoint : List Edge → Point → Type 0
IsFrontPoint [] p = ⊥
IsFrontPoint (e ∷ front) p = ((p ≡ e.a) ⊎ (p ≡ e.b)) ⊎ IsFrontPoint front p

-- c is no end of the edge
abbrev pub IsNoEnd : Point → Edge → Type 0
IsNoEnd c e = ¬ (c ≡ e.a) × ¬ (c ≡ e.b)

-- the corners are in the closed box from lo to hi
pub record AreInBox (lo hi : Point) (corners : List Point) : Type 0 where
  pub right_of_least : AllByRecursion (λ c. lo.x ≤ℤ c.x) corners
  pub left_of_greatest : AllByRecursion (λ c. c.x ≤ℤ hi.x) corners
  pub above_least : AllByRecursion (λ c. lo.y ≤ℤ c.y) corners
  pub below_greatest : AllByRecursion (λ c. c.y ≤ℤ hi.y) corners
