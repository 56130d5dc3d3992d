-- The graph of a rule: its points, and the lines that join them.
--
-- Linked     a line joins two points
-- Joined     lines lead from one point to another
-- OneOfEach  one point of each part of the graph
use Rattle.std.specs.Prelude.{◌≡◌, ◌⊎◌, ℕ, ◌<◌, ◌≤◌, List, [], ◌∷◌}
use Rattle.std.specs.List.{AllByRecursion}
use Rattle.rule_reader.specs.declared.rule.MapLine.{MapLine}

-- one of them has P
abbrev pub HasOne : {A : Type 0} → (A → Type 0) → List A → Type 0
HasOne P [] = ⊥
HasOne P (x ∷ xs) = P x ⊎ HasOne P xs

abbrev pub Linked : List MapLine → ℕ → ℕ → Type 0
Linked lines a b = HasOne (λ line. ((line.i ≡ a) × (line.j ≡ b))
    ⊎ ((line.i ≡ b) × (line.j ≡ a))) lines

-- a walk along lines, from the first point over those of a list to the last
abbrev pub IsWalk : List MapLine → ℕ → List ℕ → ℕ → Type 0
IsWalk lines a [] b = a ≡ b
IsWalk lines a (p ∷ points) b = Linked lines a p × IsWalk lines p points b

abbrev pub Joined : List MapLine → ℕ → ℕ → Type 0
Joined lines a b = (points : List ℕ) × IsWalk lines a points b

-- one of so many points, which have the numbers from 1 on
abbrev pub IsPoint : ℕ → ℕ → Type 0
IsPoint count p = (0 < p) × (p ≤ count)

abbrev pub HasEnds : ℕ → MapLine → Type 0
HasEnds count line = IsPoint count line.i × IsPoint count line.j

-- no two of them are joined
abbrev pub Apart : List MapLine → List ℕ → Type 0
Apart lines [] = Unit {0}
Apart lines (p ∷ points) = AllByRecursion (λ q. Joined lines p q → ⊥) points × Apart lines points

-- each point is joined to one of these, and no two of these are joined
pub record OneOfEach (count : ℕ) (lines : List MapLine) (starts : List ℕ) : Type 0 where
  pub points : AllByRecursion (IsPoint count) starts
  pub apart : Apart lines starts
  pub each : (p : ℕ) → IsPoint count p → HasOne (Joined lines p) starts
