-- The size of a domain at a point.
--
-- SizeField    a greatest size, a grading, and sources: places with a size of their own
-- reach        how far two points are apart, in the coordinate in which they are farther apart
-- size_from    the size that a source leaves at a point
-- least_size   the least of a size and of those that sources leave
-- size_at      the size of a field at a point
-- IsLeast      what that means
use Rattle.std.specs.Prelude.{◌≡◌, ◌⊎◌, ℕ, ◌+◌, ◌*◌, ◌/◌, ◌≤◌, min, max, List, fold, All, Any, ◌-ℤ◌}
use Rattle.std.specs.Int.RustNames.{unsigned_abs}
use Rattle.grid_geom.specs.declared.Point.{Point}
use Rattle.geom_check.specs.declared.kinds.Source.{Source}
use Rattle.geom_check.specs.Geometry.{IsLength}
use Rattle.size_field.specs.declared.TheConstants.{GRADING_UNIT, MOST_GRADING}

-- a greatest size, how fast sizes grow with the distance (in thousandths), and the places with a size of their own
pub record SizeField : Type 0 where
  pub greatest : ℕ
  pub grading : ℕ
  pub sources : List Source

-- how far two points are apart, in the coordinate in which they are farther apart
abbrev pub reach : Point → Point → ℕ
reach p q = max (unsigned_abs (p.x -ℤ q.x)) (unsigned_abs (p.y -ℤ q.y))

-- the size that a source leaves at q: its own size, and more by the grading for each step to q, rounded down
abbrev pub size_from : ℕ → Point → Source → ℕ
size_from grading q s = s.h + grading * reach q s.at / GRADING_UNIT

-- the least of a size and of those that the sources leave at q
abbrev pub least_size : ℕ → Point → ℕ → List Source → ℕ
least_size grading q greatest sources =
    fold (λ least s. min least (size_from grading q s)) greatest sources

-- the size at q: the least of the greatest size and of those that the sources leave
abbrev pub size_at : SizeField → Point → ℕ
size_at field q = least_size field.grading q field.greatest field.sources

-- n is the least of the greatest size and of those that the sources leave at q: at most each, and one of them
pub record IsLeast (field : SizeField) (q : Point) (n : ℕ) : Type 0 where
  pub greatest : n ≤ field.greatest
  pub sources : All (λ s. n ≤ size_from field.grading q s) field.sources
  pub reached : (n ≡ field.greatest) ⊎ Any (λ s. n ≡ size_from field.grading q s) field.sources

-- what is asked of a greatest size and a grading
pub record AreLimits (greatest grading : ℕ) : Type 0 where
  pub length : IsLength greatest
  pub slow : grading ≤ MOST_GRADING
