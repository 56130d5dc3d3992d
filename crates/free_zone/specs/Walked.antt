-- What is found while the near lines of a front are walked.
--
-- IsCounted   a number was looked at
-- IsPassed    a line was looked at, and the point from which it goes
-- IsFound     all points and lines were
-- IsLinePassed, AreLinesPassed   a line was looked at for itself alone; the first of a list of lines were
use Rattle.std.specs.Prelude.{◌≡◌, ◌⊎◌, ℕ, ◌<◌, ◌≤◌, List, Option, Some, None, IfSome, slice_index_or}
use Rattle.std.specs.List.{AllByRecursion, Contains}
use Rattle.grid_geom.specs.declared.Point.{Point}
use Rattle.front_chain.specs.Front.{line_at}
use Rattle.free_zone.specs.declared.blocked.Found.{Found}
use Rattle.free_zone.specs.InTheWay.{Mapped, IsFrontPoint, IsMappedLine, IsInside, IsBeside, IsFreePoint, IsFreeLine, IsPointInWay, IsLineInWay}

-- a number was found, and it is at most k
abbrev pub IsAtMost : Option ℕ → ℕ → Type 0
IsAtMost None k = ⊥
IsAtMost (Some n) k = n ≤ k

-- n was looked at: what is found was found before or is n, in the way; n is free or what is found is at most n; and it is no greater than before
pub record IsCounted (free way : Type 0) (n : ℕ) (old new : Option ℕ) : Type 0 where
  pub found : IfSome new (λ v. (old ≡ Some v) ⊎ ((v ≡ n) × way))
  pub passed : free ⊎ IsAtMost new n
  pub kept : (k : ℕ) → IsAtMost old k → IsAtMost new k

-- the front line k was looked at, and the point from which it goes
pub record IsPassed (zone : List Point) (m : Mapped) (k : ℕ) (old new : Found) : Type 0 where
  pub ends : ℕ × ℕ
  pub on_front : line_at m.front.lines k ≡ Some ends
  pub point : IsCounted (IsFreePoint zone m ends.0)
      (¬ (Contains m.numbers ends.0) × IsInside zone m.front ends.0) ends.0 old.point new.point
  pub line : IsCounted (IsFreeLine zone m ends)
      (¬ (IsMappedLine m.rule m.numbers ends) × ¬ (IsBeside zone m.front ends)) k old.line new.line

-- what is found is in the way, and each other point and line is free or no less
pub record IsFound (zone : List Point) (m : Mapped) (found : Found) : Type 0 where
  pub point : IfSome found.point (IsPointInWay zone m)
  pub line : IfSome found.line (IsLineInWay zone m)
  pub points : (n : ℕ) → IsFrontPoint m.front.lines n → IsFreePoint zone m n
      ⊎ IsAtMost found.point n
  pub lines : AllByRecursion (λ line. IsFreeLine zone m (line.1, line.2)
      ⊎ IsAtMost found.line line.0) m.front.lines

-- ---- lines alone
-- if there is a front line k, it is free
abbrev pub IsFreeAt : List Point → Mapped → ℕ → Type 0
IsFreeAt zone m k = (ends : ℕ × ℕ) → line_at m.front.lines k ≡ Some ends → IsFreeLine zone m ends

-- the front line k was looked at
abbrev pub IsLinePassed : List Point → Mapped → ℕ → Option ℕ → Option ℕ → Type 0
IsLinePassed zone m k old new = IsCounted (IsFreeAt zone m k) (IsLineInWay zone m k) k old new

-- of the front lines with these numbers the first k were: what is found is in the way, and each of them is free or no less
pub record AreLinesPassed (zone : List Point) (m : Mapped) (numbers : List ℕ) (k : ℕ) (found : Option ℕ) : Type 0 where
  pub line : IfSome found (IsLineInWay zone m)
  pub passed : (i : ℕ) → i < k → IsFreeAt zone m (slice_index_or numbers i 0)
      ⊎ IsAtMost found (slice_index_or numbers i 0)
