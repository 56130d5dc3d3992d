-- Lists of edges no two of which stand in a relation, and two such relations.
use mathlib.Core.Path.{◌≡◌}
use mathlib.Core.List.{List, [], ◌∷◌}
use mathlib.Core.Logic.{◌⊎◌}
use Rattle.std.specs.List.{AllByRecursion}
use Rattle.grid_geom.specs.declared.Edge.{Edge}
use Rattle.grid_geom.specs.Sides.{DoTangle}
use Rattle.grid_geom.specs.Sharing.{ShareAtMostAnEnd}
use Rattle.wind_law.specs.Chains.{back}

-- each edge of the list stands in the relation to each later one
abbrev pub AreInPairs : (Edge → Edge → Type 0) → List Edge → Type 0
AreInPairs R [] = Unit {0}
AreInPairs R (e ∷ es) = AllByRecursion (R e) es × AreInPairs R es

-- no edge of the list stands in the relation to a later one
abbrev pub AreFreeOf : (Edge → Edge → Type 0) → List Edge → Type 0
AreFreeOf R es = AreInPairs (λ e f. ¬ (R e f)) es

-- the edges are one, or one is the other reversed
abbrev pub AreAlike : Edge → Edge → Type 0
AreAlike e f = (e ≡ f) ⊎ (e ≡ back f)

-- the edges tangle
abbrev pub DoEdgesTangle : Edge → Edge → Type 0
DoEdgesTangle e f = DoTangle e.a e.b f.a f.b

-- the edges share nothing, or one point, and that is an end of both
abbrev pub DoShareAnEndAtMost : Edge → Edge → Type 0
DoShareAnEndAtMost e f = ShareAtMostAnEnd e.a e.b f.a f.b

-- e is an edge of the list
abbrev pub IsIn : Edge → List Edge → Type 0
IsIn e [] = ⊥
IsIn e (f ∷ fs) = (f ≡ e) ⊎ IsIn e fs
