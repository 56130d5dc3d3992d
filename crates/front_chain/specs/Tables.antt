-- The tables in which a front keeps its points and lines: what they stand for, and what is true of them.
use Rattle.std.specs.Prelude.{◌≡◌, ℕ, zero, suc, Bool, false, nat_lt, ◌+◌, ◌-◌, ◌<◌, ◌≤◌, nat_eq, cond, List, [], ◌∷◌, length, slice_index, slice_index_or, Option, Some, None}
use Rattle.grid_geom.specs.declared.Point.{Point}
use Rattle.state_law.specs.State.{IsListed}
use Rattle.front_chain.specs.declared.side.Side.{Side}

-- the side at a place of the table by line numbers: nothing where that line has left, and past the end
abbrev pub side_at : List (Option Side) → ℕ → Option Side
side_at made i = slice_index_or made i None

-- the lines of the table, its first place having this number
abbrev pub lines_from : ℕ → List (Option Side) → List (ℕ × ℕ × ℕ)
lines_from n [] = []
lines_from n (None ∷ made) = lines_from (n + 1) made
lines_from n (Some s ∷ made) = (n, s.from, s.to) ∷ lines_from (n + 1) made

-- how many lines leave the point with this number
abbrev pub leaving_of : List (ℕ × ℕ × ℕ) → ℕ → ℕ
leaving_of [] n = 0
leaving_of (line ∷ lines) n = cond (nat_eq line.1 n) 1 0 + leaving_of lines n

-- whether the count at this number is positive
abbrev pub is_positive : List ℕ → ℕ → Bool
is_positive leaving zero = false
is_positive leaving (suc i) = nat_lt 0 (slice_index leaving i)

-- the tables agree: `number` gives the number of the line with these ends
pub record AreTables (points : List Point) (leaving : List ℕ) (made : List (Option Side)) (number : Side → Option ℕ) : Type 0 where
  pub joined : (i : ℕ) (s : Side) → side_at made i ≡ Some s → IsListed (length points) s.from
      × IsListed (length points) s.to
  pub found : (i : ℕ) (s : Side) → side_at made i ≡ Some s → number s ≡ Some (i + 1)
  pub kept : (s : Side) (n : ℕ) → number s ≡ Some n → (1 ≤ n) × (side_at made (n - 1) ≡ Some s)
  pub as_many : length leaving ≡ length points
  pub counted : (i : ℕ) → i < length points
      → slice_index leaving i ≡ leaving_of (lines_from 1 made) (i + 1)
