use Rattle.std.proofs.Common.{◌≡◌, ◌<◌, ℕ, true, Contains}
use Rattle.rule_match.specs.Trying.{point_test}
use Rattle.rule_match.proofs.trying.Trying.region.Given as goal

-- of the numbers passed, each that may be mapped here is in the region
abbrev pub invariant-loop-n : goal.invariant-loop-n
invariant-loop-n l = (m : ℕ) → m < l.n → point_test l.self l.position l.point m ≡ true → Contains l.region.items m
