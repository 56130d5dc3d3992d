-- Why a rule never applies.
--
-- IsBalanced     elements, lines that leave and lines that join fit together, pair by pair
-- IsBaseKept     the base line stays
-- HasNoElement   it makes no element
-- HasIdlePoint   no element names one of its new points
-- HasBadZone     its zone has too few corners, or its two shapes don't fit
-- HasState       which of these holds first
-- IsLive         none does
use Rattle.std.specs.Prelude.{◌≡◌, ◌≢◌, ℕ, ◌+◌, ◌<◌, ◌≤◌, false, ◌&&◌, nat_eq, if◌then◌else◌, List, [], ◌∷◌, length, flat_map, Option, Some, None, ℤ, pos, ◌-ℤ◌}
use Rattle.std.specs.List.{AllByRecursion, Contains}
use Rattle.rule_reader.specs.declared.rule.MapLine.{MapLine}
use Rattle.rule_reader.specs.declared.rule.Rule.{Rule}
use Rattle.rule_maps.specs.declared.inert.Inert.{Inert}
use Rattle.rule_maps.specs.declared.inert.Inert.TheVariants.{Unbalanced, BaseKept, NoElement, IdlePoint, BadZone}

-- the pairs from each corner to the next, and from the last to the first
abbrev pub sides_from : ℕ → ℕ → List ℕ → List (ℕ × ℕ)
sides_from first from [] = (from, first) ∷ []
sides_from first from (to ∷ corners) = (from, to) ∷ sides_from first to corners

abbrev pub sides : List ℕ → List (ℕ × ℕ)
sides [] = []
sides (first ∷ corners) = sides_from first first corners

-- the ends of the lines that leave
abbrev pub leaving : List MapLine → List (ℕ × ℕ)
leaving lines = flat_map (λ line. if line.del then (line.i, line.j) ∷ [] else []) lines

-- how often (i, j) is in a list of pairs
abbrev pub count : List (ℕ × ℕ) → ℕ → ℕ → ℕ
count [] i j = 0
count (p ∷ ps) i j = (if nat_eq p.0 i && nat_eq p.1 j then 1 else 0) + count ps i j

-- how often (i, j) less how often (j, i)
abbrev pub net : List (ℕ × ℕ) → ℕ → ℕ → ℤ
net ps i j = pos (count ps i j) -ℤ pos (count ps j i)

-- the sides of elements are the lines that leave, less those that join
pub record IsBalanced (r : Rule) : Type 0 where
  pub balanced : (i j : ℕ) → net (flat_map sides r.elements) i j
      ≡ net (leaving r.lines) i j -ℤ net r.new_lines i j

-- line 1 isn't marked `del`
abbrev pub IsKept : List MapLine → Type 0
IsKept [] = ⊥
IsKept (line ∷ lines) = line.del ≡ false

abbrev pub IsBaseKept : Rule → Type 0
IsBaseKept r = IsKept r.lines

abbrev pub HasNoElement : Rule → Type 0
HasNoElement r = length r.elements ≡ 0

-- new points have the numbers after those of the mapped points
pub record HasIdlePoint (r : Rule) : Type 0 where
  pub point : ℕ
  pub first : 1 ≤ point
  pub last : point ≤ length r.new_points
  pub idle : AllByRecursion (λ corners. ¬ Contains corners (length r.points + point)) r.elements

pub data HasBadZone (r : Rule) : Type 0 where
  few : length r.area < 3 → HasBadZone r
  unequal : 0 < length r.limit → length r.limit ≢ length r.area → HasBadZone r

pub record IsLive (r : Rule) : Type 0 where
  pub balanced : IsBalanced r
  pub base_leaves : ¬ IsBaseKept r
  pub some_element : ¬ HasNoElement r
  pub none_idle : ¬ HasIdlePoint r
  pub good_zone : ¬ HasBadZone r

-- the first that holds
abbrev pub HasState : Rule → Option Inert → Type 0
HasState r (Some Unbalanced) = ¬ IsBalanced r
HasState r (Some BaseKept) = IsBalanced r × IsBaseKept r
HasState r (Some NoElement) = IsBalanced r × (¬ IsBaseKept r) × HasNoElement r
HasState r (Some IdlePoint) = IsBalanced r × (¬ IsBaseKept r) × (¬ HasNoElement r) × HasIdlePoint r
HasState r (Some BadZone) = IsBalanced r × (¬ IsBaseKept r) × (¬ HasNoElement r)
    × (¬ HasIdlePoint r) × HasBadZone r
HasState r None = IsLive r

-- ---- the lines that leave, each turned round
abbrev pub turned_leaving : List MapLine → List (ℕ × ℕ)
turned_leaving lines = flat_map (λ line. if line.del then (line.j, line.i) ∷ [] else []) lines
