use Rattle.geom_check.proofs.DomainNumbers.{numbers_rise, numbers_named, numbers_within}
use Rattle.geom_check.proofs.laws.law_domains.Goals as goal

pub returns : goal.returns
returns c = record { rising = numbers_rise; named = numbers_named; within = λ g h. numbers_within _ g.segments h.joined }
