use Rattle.std.proofs.Common.{◌≡◌, map, take}
use Rattle.geom_check.specs.Geometry.{domain_at}
use Rattle.geom_check.proofs.domains.domains.Given as goal

abbrev pub invariant-loop-number : goal.invariant-loop-number
invariant-loop-number l = l.domains.items ≡ map (domain_at l.scale.shift l.materials) (take l.number-index l.number-items)
