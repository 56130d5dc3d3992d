-- Sides as single numbers, where their numbers are small enough.
--
-- has_room   the domain and the points' numbers fit into a key
-- key_of     an even number where the side goes from the lesser point to the greater, and the next number for its turn
-- times      how often a number stands in a list
-- AreAdded   a list has some keys more than another
use Rattle.std.specs.Prelude.{◌≡◌, ℕ, ◌<◌, ◌+◌, ◌*◌, nat_lt, nat_eq, Bool, ◌&&◌, List, [], ◌∷◌, cond}
use Rattle.mesh_check.specs.declared.sides.Side.{Side}

-- the domain and the numbers of the points fit into a key
abbrev pub has_room : Side → Bool
has_room s = nat_lt s.domain 16384 && (nat_lt s.from 16777216 && nat_lt s.to 16777216)

-- a domain, a lesser and a greater point as an even number, from 2 on
abbrev pub packed : ℕ → ℕ → ℕ → ℕ
packed domain lesser greater = ((domain * 16777216 + lesser) * 16777216 + greater) * 2 + 2

-- a side that goes from the lesser point to the greater has an even key, and its turn the next number; all that have no
-- room share the key 1
abbrev pub key_of : Side → ℕ
key_of s = cond (has_room s) (cond (nat_lt s.from s.to) (packed s.domain s.from s.to) (packed s.domain s.to s.from + 1)) 1

-- how often a number stands in a list
abbrev pub times : ℕ → List ℕ → ℕ
times k [] = 0
times k (n ∷ ns) = cond (nat_eq n k) 1 0 + times k ns

-- each even number stands in the list as often as the next one
abbrev pub ArePaired : List ℕ → Type 0
ArePaired ns = (n : ℕ) → times (2 * n) ns ≡ times (2 * n + 1) ns

-- the second list has these keys more than the first; 0 is none
abbrev pub AreAdded : List ℕ → List ℕ → List ℕ → Type 0
AreAdded ks old new = (k : ℕ) → 0 < k → times k new ≡ times k ks + times k old
