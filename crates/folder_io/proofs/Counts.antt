-- A count that never falls and rose in one of several calls rose over all of them.
use Rattle.std.proofs.Common.{ℕ, ◌≤◌, arith}
use Rattle.folder_io.specs.Causes.{Rose}

-- the calls before did not lower it
pub rose_from_earlier : (earlier before now : ℕ) → earlier ≤ before → Rose before now → Rose earlier now
rose_from_earlier earlier before now kept rose = omega arith

-- the calls after did not lower it
pub rose_until_later : (before now later : ℕ) → Rose before now → now ≤ later → Rose before later
rose_until_later before now later rose kept = omega arith

-- a count that is constantly 0 never rose
pub nought_never_rose : Rose 0 0 → ⊥
nought_never_rose rose = omega arith
