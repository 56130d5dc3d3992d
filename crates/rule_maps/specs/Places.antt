-- Where a rule puts its new points and the corners of its zone: the sums written in its text, exact, then placed on the grid.
--
-- Mapping     a frame, a rule, and the points of the front to which the rule's points are mapped
-- deviation   how far a mapped point is from its place in the rule
-- row_value   the sum written in a row
-- mix         a corner at a class, from its places in both shapes of the zone
-- placed      the grid place nearest to a local place
-- new_point   the place of a new point
-- corner      the place of a corner at a class
use Rattle.std.specs.Prelude.{◌≡◌, ℕ, ◌-◌, Bool, true, false, List, [], ◌∷◌, length, slice_index_or, ℤ, pos, ◌-ℤ◌, ◌*ℤ◌}
use Rattle.std.specs.List.{All}
use Rattle.grid_geom.specs.declared.Point.{Point}
use Rattle.rule_reader.specs.declared.rule.MapPoint.{MapPoint}
use Rattle.rule_reader.specs.declared.rule.Term.{Term}
use Rattle.rule_reader.specs.declared.rule.Place.{Place}
use Rattle.rule_reader.specs.declared.rule.Rule.{Rule}
use Rattle.rule_reader.specs.Normal.{IsRule}
use Rattle.rule_maps.specs.Fractions.{Fraction, whole, plus, minus, times, divided, nearest}
use Rattle.rule_maps.specs.Frame.{LocalFrame, IsFrame, IsInRange, dot, local_x, local_y}

pub record Mapping : Type 0 where
  pub frame : LocalFrame
  pub rule : Rule
  pub mapped : List Point

abbrev pub mapping : LocalFrame → Rule → List Point → Mapping
mapping frame rule mapped = record { frame = frame; rule = rule; mapped = mapped }

-- a number of a rule's text
abbrev pub number : ℤ → Fraction
number n = record { top = n; bottom = pos 10000 }

-- the points and places of the number k, from 1 on
abbrev pub mapped_at : List Point → ℕ → Point
mapped_at mapped k = slice_index_or mapped (k - 1) (record { x = pos 0; y = pos 0 })

abbrev pub point_at : List MapPoint → ℕ → MapPoint
point_at points k = slice_index_or points (k - 1)
    (record { x = pos 0; y = pos 0; tol = record { f1 = pos 0; f2 = pos 0; f3 = pos 0 } })

abbrev pub place_at : List Place → ℕ → Place
place_at places k = slice_index_or places (k - 1)
    (record { x = pos 0; y = pos 0; row_x = []; row_y = [] })

-- the second, where it is asked for
abbrev pub either : {A : Type 0} → Bool → A → A → A
either false x y = x
either true x y = y

-- the local place of a term's mapped point less its place in the rule, in the term's coordinate
abbrev pub deviation : Mapping → Term → Fraction
deviation m t = minus (either t.of_y (local_x m.frame (mapped_at m.mapped t.point))
    (local_y m.frame (mapped_at m.mapped t.point)))
    (number (either t.of_y (point_at m.rule.points t.point).x (point_at m.rule.points t.point).y))

-- coefficient times deviation, added up
abbrev pub sum_of : Mapping → List Term → Fraction
sum_of m [] = whole (pos 0)
sum_of m (t ∷ ts) = plus (times (number t.coefficient) (deviation m t)) (sum_of m ts)

abbrev pub row_value : Mapping → ℤ → List Term → Fraction
row_value m x0 row = plus (number x0) (sum_of m row)

-- a local place
pub record Local : Type 0 where
  pub u : Fraction
  pub v : Fraction

unfoldable pub local_of : Mapping → Place → Local
local_of m p = record { u = row_value m p.x p.row_x; v = row_value m p.y p.row_y }

-- (area + (2 class - 2) * limit) / (2 class - 1)
abbrev pub mix : ℕ → Fraction → Fraction → Fraction
mix class area limit = divided (plus area (times (whole (pos 2 *ℤ pos class -ℤ pos 2)) limit))
    (pos 2 *ℤ pos class -ℤ pos 1)

unfoldable pub mixed : ℕ → Local → Local → Local
mixed class area limit = record { u = mix class area.u limit.u; v = mix class area.v limit.v }

-- start + (part) / (square of the length), rounded
abbrev pub placed_at : ℤ → Fraction → ℤ → ℤ
placed_at start part square = nearest (plus (whole start) (divided part square))

-- p1 + (u q e + v q e turned left) / (e e), rounded
unfoldable pub placed : LocalFrame → Local → Point
placed f at =
    record {
      x = placed_at f.p1.x (minus (times at.u (whole (f.q *ℤ f.e.x)))
          (times at.v (whole (f.q *ℤ f.e.y)))) (dot f.e f.e);
      y = placed_at f.p1.y (plus (times at.u (whole (f.q *ℤ f.e.y)))
          (times at.v (whole (f.q *ℤ f.e.x)))) (dot f.e f.e);
    }

-- the place of new point k
unfoldable pub new_point : Mapping → ℕ → Point
new_point m k = placed m.frame (local_of m (place_at m.rule.new_points k))

-- without a second shape of the zone the first is both
abbrev pub narrowest : List Place → List Place → List Place
narrowest area [] = area
narrowest area (p ∷ limit) = p ∷ limit

-- the place of corner k at a class
unfoldable pub corner : Mapping → ℕ → ℕ → Point
corner m k class = placed m.frame
    (mixed class (local_of m (place_at m.rule.area k))
    (local_of m (place_at (narrowest m.rule.area m.rule.limit) k)))

-- a frame, a rule within the limits, and as many points in range as the rule maps
pub record IsMapping (m : Mapping) : Type 0 where
  pub frame : IsFrame m.frame
  pub rule : IsRule m.rule
  pub count : length m.mapped ≡ length m.rule.points
  pub range : All (IsInRange m.frame) m.mapped

-- a place that copies mapped point j: its place in the rule, and the rows { 1 Xj } { 1 Yj }
pub record IsCopyOf (points : List MapPoint) (j : ℕ) (p : Place) : Type 0 where
  pub x : p.x ≡ (point_at points j).x
  pub y : p.y ≡ (point_at points j).y
  pub row_x : p.row_x ≡ record { coefficient = pos 10000; of_y = false; point = j } ∷ []
  pub row_y : p.row_y ≡ record { coefficient = pos 10000; of_y = true; point = j } ∷ []
