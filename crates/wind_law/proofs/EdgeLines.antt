-- The line of an edge: it has a direction, both ends are on it, and so is each point of the edge.
use lib.IntN.{ℤ, pos}
use lib.Signed.{◌<ℤ◌, ◌≤ℤ◌}
use mathlib.Core.Path.{◌≡◌, refl, ◌∙◌, subst}
use mathlib.Core.List.{List, [], ◌∷◌}
use native.Mathlib.Omega.{arith}
use Rattle.std.proofs.lemmas.Int.{ints}
use Rattle.std.specs.List.{AllByRecursion}
use Rattle.grid_geom.specs.declared.Point.{Point}
use Rattle.grid_geom.specs.declared.RatPoint.{RatPoint}
use Rattle.grid_geom.specs.declared.Edge.{Edge}
use Rattle.grid_geom.specs.Line.{side, whole, through}
use Rattle.grid_geom.specs.Sides.{IsOnClosed}
use Rattle.grid_geom.specs.Closed.{IsEdge}
use Rattle.grid_geom.proofs.Ring.{var, ◌⊕◌, ◌⊖◌, ◌⊗◌, ring}
use Rattle.grid_geom.proofs.Lines.{through_is, orient_whole, flat_first, flat_second}
use Rattle.grid_geom.proofs.Meeting.{squared_pos}
use Rattle.grid_geom.proofs.Near.{IsDirected}
use Rattle.grid_geom.proofs.Polygon.{lines}

pub line_start : (a b : Point) → side (through a b) (whole a) ≤ℤ pos 0
line_start a b = omega (arith, ints, through_is a b (whole a) ∙ orient_whole a b a ∙ flat_first a b)

pub line_end : (a b : Point) → side (through a b) (whole b) ≤ℤ pos 0
line_end a b = omega (arith, ints, through_is a b (whole b) ∙ orient_whole a b b ∙ flat_second a b)

pub on_line : (m : RatPoint) (a b : Point) → IsOnClosed m a b → side (through a b) m ≡ pos 0
on_line m a b h = through_is a b m ∙ h.straight

pub line_directed : (a b : Point) → ¬ (a ≡ b) → IsDirected (through a b)
line_directed a b n = record { direction = subst (λ (z : ℤ). pos 0 <ℤ z) (ring (a.x ∷ a.y ∷ b.x ∷ b.y ∷ []) ((var 2 ⊖ var 0) ⊗ (var 2 ⊖ var 0) ⊕ (var 3 ⊖ var 1) ⊗ (var 3 ⊖ var 1)) ((var 1 ⊖ var 3) ⊗ (var 1 ⊖ var 3) ⊕ (var 2 ⊖ var 0) ⊗ (var 2 ⊖ var 0)) refl) (squared_pos a b n) }

pub lines_directed : (es : List Edge) → AllByRecursion IsEdge es → AllByRecursion IsDirected (lines es)
lines_directed [] n = tt
lines_directed (e ∷ es) n = (line_directed e.a e.b n.0, lines_directed es n.1)
