-- What of a front is in the way of a rule: its points in the open zone, and its lines that aren't apart from the zone, but for those that the rule maps.
--
-- Mapped          a front, a rule, and the numbers of the front points to which the rule's points are mapped, in the rule's order
-- IsMappedLine    a front line stands at a line of the rule
-- IsFreePoint, IsFreeLine     a point is mapped or not in the open zone; a line is mapped or apart from the zone
-- HasNoPoint, HasNoLine       all front points, all front lines are free
-- IsPointInWay, IsLineInWay   the front point, the front line with this number is in the way
-- IsAnswer        the least point in the way, else the least line, else nothing
use Rattle.std.specs.Prelude.{◌≡◌, ◌⊎◌, ℕ, ◌-◌, ◌≤◌, List, slice_index_or, Option, Some, None}
use Rattle.std.specs.List.{AllByRecursion, Any, Contains}
use Rattle.grid_geom.specs.declared.Point.{Point}
use Rattle.grid_geom.specs.Line.{whole}
use Rattle.grid_geom.specs.Polygon.{IsInPolygon, IsApart}
use Rattle.rule_reader.specs.declared.rule.MapLine.{MapLine}
use Rattle.rule_reader.specs.declared.rule.Rule.{Rule}
use Rattle.state_law.specs.State.{point_at}
use Rattle.front_chain.specs.Front.{FrontState, line_at}
use Rattle.free_zone.specs.declared.blocked.Blocker.{Blocker}
use Rattle.free_zone.specs.declared.blocked.Blocker.TheVariants.{Point as AtPoint, Line as AtLine}

pub record Mapped : Type 0 where
  pub front : FrontState
  pub rule : Rule
  pub numbers : List ℕ

abbrev pub mapping : FrontState → Rule → List ℕ → Mapped
mapping front rule numbers = record { front = front; rule = rule; numbers = numbers }

-- the n-th number of a list, from 1
abbrev pub nth : List ℕ → ℕ → ℕ
nth ns n = slice_index_or ns (n - 1) 0

-- the pair of numbers that the rule's line is mapped to
abbrev pub mapped_pair : List ℕ → MapLine → ℕ × ℕ
mapped_pair ns l = (nth ns l.i, nth ns l.j)

-- ---- points and lines of the front
-- n is an end of a front line
abbrev pub IsFrontPoint : List (ℕ × ℕ × ℕ) → ℕ → Type 0
IsFrontPoint lines n = Any (λ line. (line.1 ≡ n) ⊎ (line.2 ≡ n)) lines

-- the front line with these ends stands at a line of the rule, whether that is marked `del` or not
abbrev pub IsMappedLine : Rule → List ℕ → ℕ × ℕ → Type 0
IsMappedLine r ns ends = Any (λ l. mapped_pair ns l ≡ ends) r.lines

-- the point is in the open zone
abbrev pub IsInside : List Point → FrontState → ℕ → Type 0
IsInside zone f n = IsInPolygon (whole (point_at f.points n)) zone

-- the line with these ends is apart from the zone
abbrev pub IsBeside : List Point → FrontState → ℕ × ℕ → Type 0
IsBeside zone f ends = IsApart (point_at f.points ends.0) (point_at f.points ends.1) zone

-- ---- nothing is in the way
abbrev pub IsFreePoint : List Point → Mapped → ℕ → Type 0
IsFreePoint zone m n = Contains m.numbers n ⊎ ¬ (IsInside zone m.front n)

abbrev pub IsFreeLine : List Point → Mapped → ℕ × ℕ → Type 0
IsFreeLine zone m ends = IsMappedLine m.rule m.numbers ends ⊎ IsBeside zone m.front ends

-- no front point but the mapped ones is in the open zone
abbrev pub HasNoPoint : List Point → Mapped → Type 0
HasNoPoint zone m = (n : ℕ) → IsFrontPoint m.front.lines n → IsFreePoint zone m n

-- each front line but the mapped ones is apart from the zone
abbrev pub HasNoLine : List Point → Mapped → Type 0
HasNoLine zone m = AllByRecursion (λ line. IsFreeLine zone m (line.1, line.2)) m.front.lines

-- ---- something is
-- the front point n is not mapped, and in the open zone
pub record IsPointInWay (zone : List Point) (m : Mapped) (n : ℕ) : Type 0 where
  pub on_front : IsFrontPoint m.front.lines n
  pub not_mapped : ¬ (Contains m.numbers n)
  pub inside : IsInside zone m.front n

-- the front line n is not mapped, and not apart from the zone
pub record IsLineInWay (zone : List Point) (m : Mapped) (n : ℕ) : Type 0 where
  pub ends : ℕ × ℕ
  pub on_front : line_at m.front.lines n ≡ Some ends
  pub not_mapped : ¬ (IsMappedLine m.rule m.numbers ends)
  pub not_apart : ¬ (IsBeside zone m.front ends)

-- ---- which of them is told
-- n is such a number, and the least
pub record IsLeast (P : ℕ → Type 0) (n : ℕ) : Type 0 where
  pub is : P n
  pub least : (k : ℕ) → P k → n ≤ k

-- the least point in the way, else the least line, else nothing
abbrev pub IsAnswer : List Point → Mapped → Option Blocker → Type 0
IsAnswer zone m (Some (AtPoint n)) = IsLeast (IsPointInWay zone m) n
IsAnswer zone m (Some (AtLine n)) = HasNoPoint zone m × IsLeast (IsLineInWay zone m) n
IsAnswer zone m None = HasNoPoint zone m × HasNoLine zone m
