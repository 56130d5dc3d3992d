-- The near points and the front lines between them, as those of a front, and assignments of near points to a rule's points.
--
-- IsLookedAt   the point is of the scope: all are, or these
-- IsPointOf    a near point is told by its number
-- IsAround     of the points that are looked at, all front points in range are near, and all front lines between such points are known
-- IsSurrounding  the near points are front points in range, each once, and the lines are front lines
-- near_of      the near point with a number
-- IsStartNear  a front line's start is in range
-- IsAdded      a line is passed while lines are gathered
-- setting_of   the attempt's rule tried on its line with these
-- StandFor     numbers of near points stand for numbers of points
-- IsTried      an assignment of near points that stands for these points meets each test
use Rattle.std.specs.Prelude.{ℕ, Bool, ◌≡◌, ◌<◌, true, false, List, length, Some}
use Rattle.std.specs.List.{All, AllByRecursion, AllZip, Contains, list_any}
use Rattle.grid_geom.specs.declared.Point.{Point}
use Rattle.rule_maps.specs.Frame.{LocalFrame, local4_x, local4_y, IsInRange}
use Rattle.state_law.specs.State.{State, point_at}
use Rattle.front_chain.specs.Front.{FrontState, state_of, line_at}
use Rattle.rule_match.specs.declared.around.Scope.{Scope}
use Rattle.rule_match.specs.declared.near.NearPoint.{NearPoint}
use Rattle.rule_match.specs.Candidate.{Attempt, IsFrontPoint, IsFrontPair}
use Rattle.rule_match.specs.Fitting.{fits_so_far}
use Rattle.rule_match.specs.Trying.{Setting, near_at, does_go, ties}

-- all points are looked at, or these alone
abbrev pub is_in : Bool → List ℕ → ℕ → Type 0
is_in true these n = Unit {0}
is_in false these n = Contains these n

-- the point is looked at
abbrev pub IsLookedAt : Scope → ℕ → Type 0
IsLookedAt s n = is_in s.whole s.these.items n

abbrev pub AreLookedAt : Scope → List ℕ → Type 0
AreLookedAt s ns = AllByRecursion (IsLookedAt s) ns

-- a near point is told by its number
pub record IsPointOf (st : State) (f : LocalFrame) (n : NearPoint) : Type 0 where
  pub place : n.at ≡ point_at st.points n.number
  pub x : n.x ≡ local4_x f n.at
  pub y : n.y ≡ local4_y f n.at

pub record IsAround (st : State) (f : LocalFrame) (scope : Scope) (near : List NearPoint) (lines : List (ℕ × ℕ)) : Type 0 where
  pub points : (k : ℕ) → k < length near → IsPointOf st f (near_at near k)
  -- all front points in range that are looked at are near
  pub all_points : (n : ℕ) → IsLookedAt scope n → IsFrontPoint st n
      → IsInRange f (point_at st.points n) → (k : ℕ)
      × (k < length near) × ((near_at near k).number ≡ n)
  -- all front lines between points in range that are looked at are known
  pub all_lines : (a b : ℕ) → IsLookedAt scope a → IsLookedAt scope b → IsFrontPair st (a, b)
      → IsInRange f (point_at st.points a) → IsInRange f (point_at st.points b)
      → list_any (does_go a b) lines ≡ true

-- the near points are front points in range, each once, and the lines are front lines; of the points that are looked at none is left out
pub record IsSurrounding (st : State) (f : LocalFrame) (scope : Scope) (near : List NearPoint) (lines : List (ℕ × ℕ)) : Type 0 where
  pub around : IsAround st f scope near lines
  pub on_front : (k : ℕ) → k < length near → IsFrontPoint st (near_at near k).number
  pub in_range : (k : ℕ) → k < length near → IsInRange f (near_at near k).at
  pub once : (j k : ℕ) → j < length near → k < length near
      → (near_at near j).number ≡ (near_at near k).number → j ≡ k
  pub front_lines : (a b : ℕ) → list_any (does_go a b) lines ≡ true → IsFrontPair st (a, b)

-- the near point with the number
abbrev pub near_of : List Point → LocalFrame → ℕ → NearPoint
near_of points f n = record {
  number = n;
  at = point_at points n;
  x = local4_x f (point_at points n);
  y = local4_y f (point_at points n);
}

-- a front line goes so, and its start is in range
abbrev pub IsStartNear : State → LocalFrame → ℕ × ℕ → Type 0
IsStartNear st f s = IsFrontPair st s × IsInRange f (point_at st.points s.0)

-- each front line whose start is looked at and in range is one of the lines
abbrev pub HasStartsNear : State → LocalFrame → Scope → List (ℕ × ℕ) → Type 0
HasStartsNear st f scope lines = (a b : ℕ) → IsLookedAt scope a → IsFrontPair st (a, b)
    → IsInRange f (point_at st.points a) → list_any (does_go a b) lines ≡ true

-- ---- while lines are gathered
-- where the line with the number begins in range, it is gathered
abbrev pub IsPassed : FrontState → LocalFrame → List (ℕ × ℕ) → ℕ → Type 0
IsPassed f frame lines n = (ends : ℕ × ℕ) → line_at f.lines n ≡ Some ends
    → IsInRange frame (point_at f.points ends.0) → list_any (does_go ends.0 ends.1) lines ≡ true

-- what was gathered stays, and more is gathered of what begins in range
pub record IsMore (f : FrontState) (frame : LocalFrame) (old new : List (ℕ × ℕ)) : Type 0 where
  pub kept : (a b : ℕ) → list_any (does_go a b) old ≡ true → list_any (does_go a b) new ≡ true
  pub only : All (IsStartNear (state_of f) frame) old → All (IsStartNear (state_of f) frame) new

-- all lines that begin at this point are gathered, where it is in range
abbrev pub HasLinesOf : FrontState → LocalFrame → List (ℕ × ℕ) → ℕ → Type 0
HasLinesOf f frame lines a = (b : ℕ) → IsFrontPair (state_of f) (a, b)
    → IsInRange frame (point_at f.points a) → list_any (does_go a b) lines ≡ true

-- the line with the number is passed, and what was gathered stays
pub record IsAdded (f : FrontState) (frame : LocalFrame) (n : ℕ) (old new : List (ℕ × ℕ)) : Type 0 where
  pub kept : (a b : ℕ) → list_any (does_go a b) old ≡ true → list_any (does_go a b) new ≡ true
  pub passed : IsPassed f frame new n
  pub only : All (IsStartNear (state_of f) frame) old → All (IsStartNear (state_of f) frame) new

-- the attempt's rule tried on its line, at its class
abbrev pub setting_of : Attempt → List NearPoint → List (ℕ × ℕ) → Setting
setting_of t near lines = record {
  class = t.class;
  from = t.line.1;
  to = t.line.2;
  near = near;
  lines = lines;
  rule = t.text;
}

-- numbers of near points stand for numbers of points
abbrev pub StandFor : List NearPoint → List ℕ → List ℕ → Type 0
StandFor near b ns = AllZip (λ k n. (k < length near) × ((near_at near k).number ≡ n)) b ns

-- an assignment of near points that stands for these points meets each test
pub record IsTried (s : Setting) (ns : List ℕ) : Type 0 where
  pub assignment : List ℕ
  pub stands : StandFor s.near assignment ns
  pub fits : fits_so_far (ties s) assignment ≡ true
