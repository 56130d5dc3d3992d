-- What a search notes of assignments that fail: front lines, each beside a point that the assignment maps.
--
-- IsEndNoted       a front line is noted, if it ends at a point
-- AreEndsNoted     each front line that ends at a point is noted
-- IsRefusalNoted   the front lines that a refusal of elements names are noted
-- IsWayNoted       a line in the way of a zone is noted
-- HasExcuse        where notes are made, they hold the reason why an assignment is no candidate
use Rattle.std.specs.Prelude.{ℕ, ◌≡◌, ◌⊎◌, ◌<◌, true, List, Some}
use Rattle.std.specs.List.{Contains}
use Rattle.grid_geom.specs.declared.Point.{Point}
use Rattle.front_chain.specs.Front.{FrontState, line_at, state_of}
use Rattle.admission.specs.declared.refusal.GlueRefusal.{GlueRefusal}
use Rattle.admission.specs.declared.refusal.GlueRefusal.TheVariants.{Turned, Met, PointOnSide, CornerOnLine, Backwards, Outside, Area, Memory}
use Rattle.free_zone.specs.InTheWay as way
use Rattle.free_zone.specs.InTheWay.{IsLineInWay}
use Rattle.rule_match.specs.declared.progress.Note.{Note}
use Rattle.rule_match.specs.Refused.{IsAllowed, IsExcused, has_note}
use Rattle.rule_match.specs.Base.{Tried, attempt_of}

-- if the front line with the number ends at the point, it is noted beside one of these points
abbrev pub IsEndNoted : FrontState → List Note → List ℕ → ℕ → ℕ → Type 0
IsEndNoted f notes points n number = (ends : ℕ × ℕ) → line_at f.lines number ≡ Some ends
    → (ends.0 ≡ n) ⊎ (ends.1 ≡ n) → has_note notes points number ≡ true

-- each front line that ends at the point is noted beside one of these points
abbrev pub AreEndsNoted : FrontState → List Note → List ℕ → ℕ → Type 0
AreEndsNoted f notes points n = (line : ℕ × ℕ × ℕ) → Contains f.lines line
    → (line.1 ≡ n) ⊎ (line.2 ≡ n) → has_note notes points line.0 ≡ true

-- a line with a number below the next one is a front line, and is noted
abbrev pub IsLineNoted : FrontState → List Note → List ℕ → ℕ → Type 0
IsLineNoted f notes points number = number < f.next → has_note notes points number ≡ true

-- the front lines that the refusal names are noted: its line, or each line that ends at its point; lines that joined
-- before need no note
abbrev pub IsRefusalNoted : FrontState → List Note → List ℕ → GlueRefusal → Type 0
IsRefusalNoted f notes points (Turned element) = Unit {0}
IsRefusalNoted f notes points (Met element line) = IsLineNoted f notes points line
IsRefusalNoted f notes points (PointOnSide element n) = AreEndsNoted f notes points n
IsRefusalNoted f notes points (CornerOnLine element line) = IsLineNoted f notes points line
IsRefusalNoted f notes points (Backwards element line) = IsLineNoted f notes points line
IsRefusalNoted f notes points (Outside element winding) = Unit {0}
IsRefusalNoted f notes points (Area element left) = Unit {0}
IsRefusalNoted f notes points Memory = Unit {0}

-- where notes are made, a line in the way of the zone is noted
pub record IsWayNoted (t : Tried) (zone : List Point) (points : List ℕ) (notes : List Note) : Type 0 where
  pub number : ℕ
  pub in_way : IsLineInWay zone (way.mapping t.base.front t.rule points) number
  pub noted : t.base.noting ≡ true → has_note notes points number ≡ true

-- where notes are made, and the sentences of a candidate that look at places alone hold, the notes hold a reason why the
-- assignment is none
abbrev pub HasExcuse : Tried → List Note → List ℕ → Type 0
HasExcuse t notes b = t.base.noting ≡ true → IsAllowed (state_of t.base.front) (attempt_of t b)
    → IsExcused (state_of t.base.front) notes (attempt_of t b)
