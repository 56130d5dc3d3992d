use Rattle.std.proofs.Common.{◌≡◌, drop}
use Rattle.size_field.specs.Cutting.{size_of_domain}
use Rattle.size_field.proofs.cutting.size_of_domain.Given as goal

-- no domain so far is the one
abbrev pub invariant-loop-d : goal.invariant-loop-d
invariant-loop-d l = size_of_domain (drop l.d-index l.domains) l.domain ≡ size_of_domain l.domains l.domain
