-- The table in which a view keeps a front's lines, and what it stands for.
use Rattle.std.specs.Prelude.{◌≡◌, ℕ, ◌+◌, cond, List, [], ◌∷◌, Option, Some, None}
use Rattle.state_law.specs.State.{does_join}
use Rattle.std.specs.declared.collections.VecDeque.{VecDeque}
use Rattle.run_log.specs.declared.table.Ends.{Ends}

-- the lines that are there, as (number, from, to) in order of making, and the next line number
pub record Lines : Type 0 where
  pub lines : List (ℕ × ℕ × ℕ)
  pub next : ℕ

-- the lines of the table, its first place having this number: nothing where a line has left
abbrev pub lines_from : ℕ → List (Option Ends) → List (ℕ × ℕ × ℕ)
lines_from n [] = []
lines_from n (None ∷ made) = lines_from (n + 1) made
lines_from n (Some ends ∷ made) = (n, ends.from, ends.to) ∷ lines_from (n + 1) made

-- the numbers of the lines with these ends
abbrev pub numbers_of : List (ℕ × ℕ × ℕ) → Ends → List ℕ
numbers_of [] s = []
numbers_of (line ∷ lines) s =
    cond (does_join line (s.from, s.to)) (line.0 ∷ numbers_of lines s) (numbers_of lines s)

-- the numbers that are kept under some ends agree with the lines
abbrev pub AreKept : List (Option Ends) → (Ends → List ℕ) → Type 0
AreKept made kept = (s : Ends) → kept s ≡ numbers_of (lines_from 1 made) s

-- the numbers kept under some ends
abbrev pub queued : {Z : Type 0} → Option (VecDeque ℕ Z) → List ℕ
queued None = []
queued (Some numbers) = numbers.items
