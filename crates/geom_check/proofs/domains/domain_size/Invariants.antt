use Rattle.std.proofs.Common.{◌≡◌, drop}
use Rattle.geom_check.specs.Geometry.{size_from, domain_size}
use Rattle.geom_check.proofs.domains.domain_size.Given as goal

abbrev pub invariant-loop-row : goal.invariant-loop-row
invariant-loop-row l = size_from l.scale.shift l.domain l.size (drop l.row-index l.materials) ≡ domain_size l.scale.shift l.materials l.domain
