-- When a rule applies at a line of the front: a class, a line, a rule and an assignment of front points to the rule's points.
-- Origin: NETGEN's rule test (Schoeberl 1997). These definitions look at all front points and all front lines.
--
-- Attempt       a class, a line with its frame, a rule with its number, an assignment
-- mapped, locals, mapping, made, zone, elements   the places of an attempt
-- IsTolerated   a deviation is within a tolerance at a class
-- IsCandidate   the rule applies: its sentences are the fields, in the order in which they are looked at
use lib.IntN.{ℤ, pos, ◌+ℤ◌, ◌-ℤ◌, ◌*ℤ◌}
use lib.Signed.{◌<ℤ◌, ◌≤ℤ◌}
use Rattle.std.specs.Prelude.{ℕ, ◌≡◌, ◌+◌, ◌*◌, ◌-◌, ◌≤◌, nat_eq, List, [], ◌∷◌, ◌++◌, length, map, slice_index_or, ◌⊎◌}
use Rattle.std.specs.List.{AllByRecursion, Any, Contains, IsDistinct}
use Rattle.grid_geom.specs.declared.Point.{Point}
use Rattle.grid_geom.specs.Bounds.{IsOnGrid}
use Rattle.grid_geom.specs.Closed.{same_point}
use Rattle.grid_geom.specs.Line.{whole}
use Rattle.grid_geom.specs.Plane.{orient}
use Rattle.grid_geom.specs.Polygon.{IsStrictlyConvex, IsInPolygon, IsApart}
use Rattle.rule_maps.specs.Places.{Mapping, new_point}
use Rattle.rule_maps.specs.Inert.{IsLive}
use Rattle.rule_maps.specs.Frame.{LocalFrame, local4_x, local4_y, IsInRange}
use Rattle.rule_reader.specs.declared.rule.Rule.{Rule}
use Rattle.rule_reader.specs.declared.rule.Place.{Place}
use Rattle.rule_reader.specs.declared.rule.Triple.{Triple}
use Rattle.rule_reader.specs.declared.rule.MapPoint.{MapPoint}
use Rattle.rule_reader.specs.declared.rule.MapLine.{MapLine}
use Rattle.free_zone.specs.Zone.{zone_of}
use Rattle.state_law.specs.State.{State, point_at, front_edges, corners_of}
use Rattle.state_law.specs.Gluing.{MayAllBeGlued}

-- a class, a front line (number, from, to) with its local frame, a rule with its number, and an assignment: the numbers of the mapped points in the rule's order
pub record Attempt : Type 0 where
  pub class : ℕ
  pub line : ℕ × ℕ × ℕ
  pub frame : LocalFrame
  pub rule : ℕ
  pub text : Rule
  pub points : List ℕ

-- the n-th number of a list, from 1
abbrev pub nth : List ℕ → ℕ → ℕ
nth ns n = slice_index_or ns (n - 1) 0

-- ---- the places of an attempt
abbrev pub mapped : State → Attempt → List Point
mapped st t = corners_of st.points t.points

-- the local places of the mapped points, in units of 1/10,000, rounded
abbrev pub local4 : LocalFrame → Point → Point
local4 f p = record { x = local4_x f p; y = local4_y f p }

abbrev pub locals : State → Attempt → List Point
locals st t = map (local4 t.frame) (mapped st t)

abbrev pub mapping : State → Attempt → Mapping
mapping st t = record { frame = t.frame; rule = t.text; mapped = mapped st t }

-- the places of the new points from number k on
abbrev pub made_from : Mapping → ℕ → List Place → List Point
made_from m k [] = []
made_from m k (p ∷ ps) = new_point m k ∷ made_from m (k + 1) ps

abbrev pub made_of : Mapping → List Point
made_of m = made_from m 1 m.rule.new_points

abbrev pub made : State → Attempt → List Point
made st t = made_of (mapping st t)

abbrev pub zone : State → Attempt → List Point
zone st t = zone_of (mapping st t) t.class

-- the corners of the elements; rule points after the mapped ones are the new points
abbrev pub elements : State → Attempt → List (List Point)
elements st t = map (corners_of (mapped st t ++ made st t)) t.text.elements

-- the pair of numbers that the rule's line is mapped to
abbrev pub mapped_pair : List ℕ → MapLine → ℕ × ℕ
mapped_pair points l = (nth points l.i, nth points l.j)

-- ---- tolerances, in units of 1/10,000
abbrev pub measure : Triple → ℤ → ℤ → ℤ
measure f dx dy = f.f1 *ℤ dx *ℤ dx +ℤ f.f2 *ℤ dx *ℤ dy +ℤ f.f3 *ℤ dy *ℤ dy

-- a measure is at most (5 + 3 class) / 10, three factors in units of 1/10,000
abbrev pub IsTolerated : ℕ → Triple → ℤ → ℤ → Type 0
IsTolerated class f dx dy = measure f dx dy ≤ℤ pos ((5 + 3 * class) * 100000000000)

-- the deviation of a mapped point's rounded local place from its place in the rule
abbrev pub IsPointTolerated : ℕ → Point → MapPoint → Type 0
IsPointTolerated class at p = IsTolerated class p.tol (at.x -ℤ p.x) (at.y -ℤ p.y)

abbrev pub AreTolerated : ℕ → List Point → List MapPoint → Type 0
AreTolerated class [] [] = Unit {0}
AreTolerated class [] (p ∷ ps) = ⊥
AreTolerated class (at ∷ ats) [] = ⊥
AreTolerated class (at ∷ ats) (p ∷ ps) = IsPointTolerated class at p × AreTolerated class ats ps

abbrev pub rule_place : List MapPoint → ℕ → Point
rule_place ps n = let p = slice_index_or ps (n - 1)
    (record {
      x = pos 0;
      y = pos 0;
      tol = record { f1 = pos 0; f2 = pos 0; f3 = pos 0 };
    }) in record { x = p.x; y = p.y }

abbrev pub IsLineTolerated : ℕ → List Point → List MapPoint → MapLine → Type 0
IsLineTolerated class ats ps l = IsTolerated class l.tol
    (((point_at ats l.j).x -ℤ (point_at ats l.i).x) -ℤ
    ((rule_place ps l.j).x -ℤ (rule_place ps l.i).x))
    (((point_at ats l.j).y -ℤ (point_at ats l.i).y) -ℤ
    ((rule_place ps l.j).y -ℤ (rule_place ps l.i).y))

-- ---- the front by numbers
-- n is an end of a front line
abbrev pub IsFrontPoint : State → ℕ → Type 0
IsFrontPoint st n = Any (λ line. (line.1 ≡ n) ⊎ (line.2 ≡ n)) st.front

-- some front line goes from one point to the other
abbrev pub IsFrontPair : State → ℕ × ℕ → Type 0
IsFrontPair st s = Any (λ line. (line.1 ≡ s.0) × (line.2 ≡ s.1)) st.front

-- the front line stands at a mapped line of the rule
abbrev pub IsMappedLine : Attempt → ℕ × ℕ × ℕ → Type 0
IsMappedLine t line = Any (λ l. mapped_pair t.points l ≡ (line.1, line.2)) t.text.lines

-- the attempt is a candidate of the state
pub record IsCandidate (st : State) (t : Attempt) : Type 0 where
  -- the rule is live and of quality at most the class
  pub live : IsLive t.text
  pub quality : t.text.quality ≤ t.class
  -- different front points in range, one per mapped point
  pub counted : length t.points ≡ length t.text.points
  pub different : IsDistinct nat_eq t.points
  pub on_front : AllByRecursion (IsFrontPoint st) t.points
  pub in_range : AllByRecursion (IsInRange t.frame) (mapped st t)
  -- rule points 1 and 2 at the ends of the line, each mapped line at a front line of the same direction
  pub at_start : nth t.points 1 ≡ t.line.1
  pub at_end : nth t.points 2 ≡ t.line.2
  pub at_lines : AllByRecursion (λ l. IsFrontPair st (mapped_pair t.points l)) t.text.lines
  -- the tolerances at the class
  pub points_tolerated : AreTolerated t.class (locals st t) t.text.points
  pub lines_tolerated : AllByRecursion
      (IsLineTolerated t.class (locals st t) t.text.points) t.text.lines
  -- the orientations
  pub turned : AllByRecursion (λ n. pos 0 <ℤ orient (point_at (mapped st t) n.0)
      (point_at (mapped st t) n.1) (point_at (mapped st t) n.2)) t.text.turns
  -- the new points: on the grid, at no listed point, different
  pub made_on_grid : AllByRecursion IsOnGrid (made st t)
  pub made_new : AllByRecursion (λ p. ¬ (Contains st.points p)) (made st t)
  pub made_different : IsDistinct same_point (made st t)
  -- the zone: on the grid, strictly convex
  pub zone_on_grid : AllByRecursion IsOnGrid (zone st t)
  pub zone_convex : IsStrictlyConvex (zone st t)
  -- no front point but the mapped ones in the open zone, each front line but the mapped ones apart from it
  pub no_point_in_zone : (n : ℕ) → IsFrontPoint st n → (Contains t.points n)
      ⊎ ¬ (IsInPolygon (whole (point_at st.points n)) (zone st t))
  pub no_line_in_zone : AllByRecursion
      (λ line. IsMappedLine t line
      ⊎ IsApart (point_at st.points line.1) (point_at st.points line.2) (zone st t)) st.front
  -- the elements, one after another
  pub glued : MayAllBeGlued (elements st t) (front_edges st.points st.front)
