use Rattle.std.proofs.Common.{◌≡◌, take}
use Rattle.geom_check.specs.Domains.{domain_numbers}
use Rattle.geom_check.proofs.domains.domain_numbers.Given as goal

abbrev pub invariant-loop-segment : goal.invariant-loop-segment
invariant-loop-segment l = l.numbers.keys ≡ domain_numbers (take l.segment-index l.segments)
