-- The domains that segments name.
--
-- sides_of         the numbers on the two sides of each segment
-- domain_numbers   those above 0, each once, rising: the domains of a geometry
-- IsRising         each number is below those after it
-- IsDomain         the number of a domain
use Rattle.std.specs.Prelude.{ℕ, ◌<◌, ◌≤◌, nat_eq, List, [], ◌∷◌, fold, if◌then◌else◌}
use Rattle.std.specs.List.{flat_map, All}
use Rattle.std.specs.Ordering.{nat_cmp}
use Rattle.std.specs.BTreeSet.{insert_key}
use Rattle.geom_check.specs.declared.kinds.Segment.{Segment}
use Rattle.geom_check.specs.declared.limits.TheConstants.{MOST_DOMAINS}

-- the numbers on the two sides of each segment
abbrev pub sides_of : List Segment → List ℕ
sides_of segments = flat_map (λ s. s.left ∷ s.right ∷ []) segments

-- the rising numbers, with d at its place unless it is 0, which is the outside, or there
abbrev pub with_domain : List ℕ → ℕ → List ℕ
with_domain ds d = if nat_eq d 0 then ds else insert_key nat_cmp ds d

-- the numbers above 0 on the sides of segments, each once, rising
abbrev pub domain_numbers : List Segment → List ℕ
domain_numbers segments = fold with_domain [] (sides_of segments)

-- each number is below those after it
abbrev pub IsRising : List ℕ → Type 0
IsRising [] = Unit {0}
IsRising (d ∷ ds) = All (λ e. d < e) ds × IsRising ds

-- the number of a domain: from 1 to the greatest
abbrev pub IsDomain : ℕ → Type 0
IsDomain d = (0 < d) × (d ≤ MOST_DOMAINS)
