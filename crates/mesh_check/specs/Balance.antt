-- Element sides and edges of boundaries by the numbers of their points, domain by domain.
--
-- element_sides   the sides of all elements
-- row_sides       the edge rows round each domain, each with the domain on its left
-- turned          a side the other way
-- net_of          how often a side stands in a list, less its turn
-- IsLeastDifference   the least side of which elements and boundaries have different numbers
use Rattle.std.specs.Prelude.{◌≡◌, ◌≢◌, ◌⊎◌, ℕ, ◌<◌, ◌≤◌, nat_lt, nat_eq, Bool, true, false, ◌&&◌, List, [], ◌∷◌, ◌++◌, length, slice_index_or, map, cond, ◌+◌, ℤ, pos, ◌-ℤ◌}
use Rattle.state_law.specs.State.{number_sides}
use Rattle.vol_format.specs.declared.EdgeRow.{EdgeRow}
use Rattle.vol_format.specs.declared.MeshElement.{MeshElement}
use Rattle.mesh_check.specs.declared.sides.Side.{Side}
use Rattle.mesh_check.specs.declared.difference.Difference.{Difference}

-- the side of a domain from one point to another
abbrev pub side_of : ℕ → ℕ × ℕ → Side
side_of domain ends = record { domain = domain; from = ends.0; to = ends.1 }

-- the sides of the elements, element by element
abbrev pub element_sides : List MeshElement → List Side
element_sides [] = []
element_sides (e ∷ es) = map (side_of e.domain) (number_sides e.corners) ++ element_sides es

-- the side in front, where its domain is not the outside
abbrev pub with_side : Bool → Side → List Side → List Side
with_side true s ss = s ∷ ss
with_side false s ss = ss

-- the edge rows, each as it stands for the domain on its left, and turned for the domain on its right
abbrev pub row_sides : List EdgeRow → List Side
row_sides [] = []
row_sides (row ∷ rows) =
    with_side (nat_lt 0 row.left) (side_of row.left (row.a, row.b))
    (with_side (nat_lt 0 row.right) (side_of row.right (row.b, row.a)) (row_sides rows))

-- the side the other way
abbrev pub turned : Side → Side
turned s = record { domain = s.domain; from = s.to; to = s.from }

-- the two are one side
abbrev pub same_side : Side → Side → Bool
same_side s t = nat_eq s.domain t.domain && (nat_eq s.from t.from && nat_eq s.to t.to)

-- how often a side stands in the list
abbrev pub side_count : Side → List Side → ℕ
side_count s [] = 0
side_count s (t ∷ ts) = cond (same_side t s) 1 0 + side_count s ts

-- how often a side stands in the list, less its turn
abbrev pub net_of : Side → List Side → ℤ
net_of s ss = pos (side_count s ss) -ℤ pos (side_count (turned s) ss)

-- s is less than t, or the same: by their domains, then by their starts, then by their ends
abbrev pub IsUpto : Side → Side → Type 0
IsUpto s t = (s.domain < t.domain) ⊎ ((s.domain ≡ t.domain)
    × ((s.from < t.from) ⊎ ((s.from ≡ t.from) × (s.to ≤ t.to))))

-- each side is at most each after it
abbrev pub AreAscending : List Side → Type 0
AreAscending ss = (i j : ℕ) (d : Side) → i ≤ j → j < length ss
    → IsUpto (slice_index_or ss i d) (slice_index_or ss j d)

-- s is the least side that doesn't stand equally often in both lists
pub record IsFirstDifference (ss ts : List Side) (s : Side) : Type 0 where
  pub differ : side_count s ss ≢ side_count s ts
  pub least : (t : Side) → side_count t ss ≢ side_count t ts → IsUpto s t

-- the least side of which elements and boundaries have different numbers, less its turn, and these numbers
pub record IsLeastDifference (elements rows : List Side) (d : Difference) : Type 0 where
  pub elements_are : d.elements ≡ net_of d.side elements
  pub edges_are : d.edges ≡ net_of d.side rows
  pub differ : d.elements ≢ d.edges
  pub least : (t : Side) → net_of t elements ≢ net_of t rows → IsUpto d.side t
