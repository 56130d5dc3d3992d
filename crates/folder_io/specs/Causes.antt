-- What licenses a failure, and what an object of the outside tells.
use Rattle.std.specs.Prelude.{◌≡◌, ℕ, ◌+◌, ◌-◌, ◌^◌, ◌≤◌, min, List, ◌++◌, length, take, None, Some}
use Rattle.std.specs.Prelude.{Option, MatchOption}

-- a count of failures rose: it is greater now than before, or stands at the counter's last value
abbrev pub Rose : ℕ → ℕ → Type 0
Rose before now = min (before + 1) (2 ^ 64 - 1) ≤ now

-- what is told meets P; an object that tells nothing claims nothing
abbrev pub Told : {A : Type 0} → Option A → (A → Type 0) → Type 0
Told told P = MatchOption told (Unit {0}) P

-- an object that told something tells something again, and the two meet P; one that told nothing goes on so
abbrev pub ToldBoth : {A : Type 0} → Option A → Option A → (A → A → Type 0) → Type 0
ToldBoth None now P = now ≡ None
ToldBoth (Some old) now P = MatchOption now ⊥ (P old)

-- the new bytes are the old ones and then a prefix of the given bytes
abbrev pub GrowsByPrefix : List ℕ → List ℕ → List ℕ → Type 0
GrowsByPrefix given old new = (count : ℕ) × (count ≤ length given) × (new ≡ old ++ take count given)
