-- A front line tried at a class, and the attempts for which assignments of its near points stand.
--
-- BaseLine     a front, a line of it with its frame and its surroundings, a class, and whether the search notes why
--              assignments fail
-- IsBaseLine   the line is on the front, and these are its surroundings
-- Tried        a rule tried on a base line
-- HasFreeZone  the rule's zone is strictly convex and free
-- attempt_of   the attempt for which an assignment of near points stands
use Rattle.std.specs.Prelude.{Bool, ℕ, ◌≡◌, ◌≤◌, ◌++◌, true, List, length, map}
use Rattle.std.specs.List.{All, Contains}
use Rattle.grid_geom.specs.Bounds.{IsOnGrid}
use Rattle.rule_reader.specs.declared.rule.Rule.{Rule}
use Rattle.rule_reader.specs.Normal.{IsRule}
use Rattle.grid_geom.specs.declared.Point.{Point}
use Rattle.state_law.specs.State.{point_at}
use Rattle.size_field.specs.Size.{SizeField, size_at}
use Rattle.rule_maps.specs.Frame.{LocalFrame, IsFrame, IsFrameOf}
use Rattle.rule_maps.specs.Inert.{IsLive}
use Rattle.front_chain.specs.Front.{FrontState, IsFrontState, state_of}
use Rattle.rule_maps.specs.Places.{mapping}
use Rattle.free_zone.specs.Zone.{IsZone, zone_of}
use Rattle.free_zone.specs.InTheWay as way
use Rattle.free_zone.specs.InTheWay.{HasNoPoint, HasNoLine}
use Rattle.rule_match.specs.declared.around.Scope.{Scope}
use Rattle.rule_match.specs.declared.near.NearPoint.{NearPoint}
use Rattle.rule_match.specs.Candidate.{Attempt, nth, made}
use Rattle.rule_match.specs.Applied.{numbers_from, are_new, do_differ}
use Rattle.rule_match.specs.Trying.{Setting, near_at}
use Rattle.rule_match.specs.Around.{IsSurrounding}

pub record BaseLine : Type 0 where
  pub front : FrontState
  pub line : ℕ × ℕ × ℕ
  pub class : ℕ
  pub frame : LocalFrame
  pub scope : Scope
  pub near : List NearPoint
  pub lines : List (ℕ × ℕ)
  pub noting : Bool

pub record IsBaseLine (b : BaseLine) : Type 0 where
  pub front : IsFrontState b.front
  pub on_front : Contains b.front.lines b.line
  pub framed : IsFrame b.frame
  pub surrounded : IsSurrounding (state_of b.front) b.frame b.scope b.near b.lines
  pub class_least : 1 ≤ b.class
  pub class_greatest : b.class ≤ 16

-- the frame of the line between two points, at the size at its middle
abbrev pub IsFramed : SizeField → List Point → ℕ → ℕ → LocalFrame → Type 0
IsFramed sizes points from to f =
    IsFrameOf (point_at points from) (point_at points to) (size_at sizes f.middle) f

-- the base line is that with the number, with its frame, at the class
pub record IsBaseOf (sizes : SizeField) (f : FrontState) (line class : ℕ) (b : BaseLine) : Type 0 where
  pub base : IsBaseLine b
  pub front : b.front ≡ f
  pub number : b.line.0 ≡ line
  pub same_class : b.class ≡ class
  pub framed : IsFramed sizes f.points b.line.1 b.line.2 b.frame

-- a rule with its number, tried on a base line
pub record Tried : Type 0 where
  pub base : BaseLine
  pub number : ℕ
  pub rule : Rule

-- the rule is live, and of quality at most the class
pub record IsTrying (t : Tried) : Type 0 where
  pub base : IsBaseLine t.base
  pub rule : IsRule t.rule
  pub live : IsLive t.rule
  pub quality : t.rule.quality ≤ t.base.class

-- the numbers of the near points
abbrev pub numbers_at : List NearPoint → List ℕ → List ℕ
numbers_at near b = map (λ k. (near_at near k).number) b

-- the attempt on the base line by a rule that maps these points
abbrev pub attempt_at : BaseLine → ℕ → Rule → List ℕ → Attempt
attempt_at b number rule points =
    record {
      class = b.class;
      line = b.line;
      frame = b.frame;
      rule = number;
      text = rule;
      points = points;
    }

-- the attempt for which an assignment of near points stands
abbrev pub attempt_of : Tried → List ℕ → Attempt
attempt_of t b = attempt_at t.base t.number t.rule (numbers_at t.base.near b)

abbrev pub setting_at : Tried → Setting
setting_at t = record {
  class = t.base.class;
  from = t.base.line.1;
  to = t.base.line.2;
  near = t.base.near;
  lines = t.base.lines;
  rule = t.rule;
}

-- the zone over these mapped points is on the grid, strictly convex, and free of all points and lines but the mapped ones
pub record HasFreeZone (t : Tried) (places : List Point) (numbers : List ℕ) : Type 0 where
  pub zone : IsZone (zone_of (mapping t.base.frame t.rule places) t.base.class)
  pub no_point : HasNoPoint (zone_of (mapping t.base.frame t.rule places) t.base.class)
      (way.mapping t.base.front t.rule numbers)
  pub no_line : HasNoLine (zone_of (mapping t.base.frame t.rule places) t.base.class)
      (way.mapping t.base.front t.rule numbers)

-- these are the new points of the attempt for which the assignment stands: on the grid, at no listed place, and different
pub record HasNewPoints (t : Tried) (b : List ℕ) (places : List Point) : Type 0 where
  pub made : places ≡ made (state_of t.base.front) (attempt_of t b)
  pub on_grid : All IsOnGrid places
  pub few : length places ≤ 8
  pub new : are_new t.base.front.points places ≡ true
  pub differ : do_differ places ≡ true

-- the rule's elements by the front's numbers, new points coming after those that are listed
abbrev pub elements_by : Tried → List ℕ → List Point → List (List ℕ)
elements_by t numbers made = map
    (map (nth (numbers ++ numbers_from (length t.base.front.points) made))) t.rule.elements
