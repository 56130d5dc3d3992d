-- A pair of line and class that is refused, with the notes of a search, in the words of state_law.
--
-- places_of        an attempt by its places
-- IsAllowed        the sentences of a candidate that look at places alone
-- FitsFront        its mapped points are front points, its mapped lines front lines
-- has_note         a front line is noted beside one of some points
-- IsExcused        the attempt is no candidate, for a reason that the notes hold
-- IsRefusedBy      each allowed attempt that fits the front is excused
-- IsRefusedAgain   the same of those that map a fresh point
-- HasOneAgain, HasNoneAgain   the line has a candidate that maps a fresh point; it has none
use Rattle.std.specs.Prelude.{ℕ, ◌≡◌, ◌≤◌, nat_eq, List, length, map, pos, Bool, ◌&&◌, filter}
use lib.Signed.{◌<ℤ◌}
use Rattle.std.specs.List.{AllByRecursion, Any, Contains, IsDistinct, list_any}
use Rattle.grid_geom.specs.declared.Edge.{Edge}
use Rattle.grid_geom.specs.Bounds.{IsOnGrid}
use Rattle.grid_geom.specs.Closed.{same_point}
use Rattle.grid_geom.specs.Plane.{orient}
use Rattle.grid_geom.specs.Polygon.{IsStrictlyConvex}
use Rattle.rule_reader.specs.declared.rule.Rule.{Rule}
use Rattle.size_field.specs.Size.{SizeField}
use Rattle.rule_maps.specs.Inert.{IsLive}
use Rattle.rule_maps.specs.Frame.{IsInRange}
use Rattle.state_law.specs.State.{State, point_at, pair_edge, front_edges}
use Rattle.state_law.specs.Refusal as refusal
use Rattle.rule_match.specs.declared.progress.Note.{Note}
use Rattle.rule_match.specs.Candidate.{Attempt, IsCandidate, mapped, locals, made, zone, elements, nth, mapped_pair, AreTolerated, IsFrontPair, IsFrontPoint, IsLineTolerated}
use Rattle.rule_match.specs.Least.{IsOf}

-- the attempt by its places
abbrev pub places_of : State → Attempt → refusal.Attempt
places_of st t = record {
  mapped = mapped st t;
  lines = map (λ l. pair_edge st.points (mapped_pair t.points l)) t.text.lines;
  made = made st t;
  zone = zone st t;
  elements = elements st t;
}

-- the sentences of `IsCandidate` that look at places alone: no application changes them
pub record IsAllowed (st : State) (t : Attempt) : Type 0 where
  pub live : IsLive t.text
  pub quality : t.text.quality ≤ t.class
  pub counted : length t.points ≡ length t.text.points
  pub different : IsDistinct nat_eq t.points
  pub in_range : AllByRecursion (IsInRange t.frame) (mapped st t)
  pub at_start : nth t.points 1 ≡ t.line.1
  pub at_end : nth t.points 2 ≡ t.line.2
  pub points_tolerated : AreTolerated t.class (locals st t) t.text.points
  pub lines_tolerated : AllByRecursion
      (IsLineTolerated t.class (locals st t) t.text.points) t.text.lines
  pub turned : AllByRecursion (λ n. pos 0 <ℤ orient (point_at (mapped st t) n.0)
      (point_at (mapped st t) n.1) (point_at (mapped st t) n.2)) t.text.turns
  pub made_on_grid : AllByRecursion IsOnGrid (made st t)
  pub made_different : IsDistinct same_point (made st t)
  pub zone_on_grid : AllByRecursion IsOnGrid (zone st t)
  pub zone_convex : IsStrictlyConvex (zone st t)

-- the mapped points are front points, the mapped lines front lines
pub record FitsFront (st : State) (t : Attempt) : Type 0 where
  pub on_front : AllByRecursion (IsFrontPoint st) t.points
  pub at_lines : AllByRecursion (λ l. IsFrontPair st (mapped_pair t.points l)) t.text.lines

-- the line with the number is noted beside one of the points
abbrev pub has_note : List Note → List ℕ → ℕ → Bool
has_note notes points number = list_any
    (λ note. nat_eq note.line number && list_any (nat_eq note.point) points) notes

abbrev pub is_noted : List Note → List ℕ → ℕ × ℕ × ℕ → Bool
is_noted notes points line = has_note notes points line.0

-- the front lines that are noted beside a point that the attempt maps
abbrev pub witnesses : State → List Note → Attempt → List Edge
witnesses st notes t = front_edges st.points (filter (is_noted notes t.points) st.front)

-- the reason why the attempt is no candidate: a front line that hinders it is noted beside a point that it maps
abbrev pub IsExcused : State → List Note → Attempt → Type 0
IsExcused st notes t = refusal.HasReason st.points (front_edges st.points st.front)
    (witnesses st notes t) (places_of st t)

-- each allowed attempt that fits the front has its reason
pub record IsRefusedBy (sizes : SizeField) (st : State) (rules : List Rule) (line class : ℕ) (notes : List Note) : Type 0 where
  pub excused : (t : Attempt) → IsOf sizes st rules line class t → IsAllowed st t → FitsFront st t
      → IsExcused st notes t

-- the same of the attempts that map one of the fresh points
pub record IsRefusedAgain (sizes : SizeField) (st : State) (rules : List Rule) (line class : ℕ) (fresh : List ℕ) (notes : List Note) : Type 0 where
  pub excused : (t : Attempt) → IsOf sizes st rules line class t → IsAllowed st t → FitsFront st t
      → Any (λ p. Contains fresh p) t.points → IsExcused st notes t

-- some attempt of the line at the class that maps a fresh point is a candidate
pub record HasOneAgain (sizes : SizeField) (st : State) (rules : List Rule) (line class : ℕ) (fresh : List ℕ) : Type 0 where
  pub attempt : Attempt
  pub of : IsOf sizes st rules line class attempt
  pub maps : Any (λ p. Contains fresh p) attempt.points
  pub candidate : IsCandidate st attempt

-- none of its attempts at the class that map a fresh point is a candidate
pub record HasNoneAgain (sizes : SizeField) (st : State) (rules : List Rule) (line class : ℕ) (fresh : List ℕ) : Type 0 where
  pub none : (t : Attempt) → IsOf sizes st rules line class t
      → Any (λ p. Contains fresh p) t.points → IsCandidate st t → ⊥
