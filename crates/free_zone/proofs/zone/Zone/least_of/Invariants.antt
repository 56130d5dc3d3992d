use Rattle.free_zone.specs.InTheWay.{mapping}
use Rattle.free_zone.specs.Walked.{AreLinesPassed}
use Rattle.free_zone.proofs.zone.Zone.least_of.Given as goal

abbrev pub invariant-loop-number : goal.invariant-loop-number
invariant-loop-number l = AreLinesPassed l.self (mapping l.front l.c l.mapped) l.numbers l.number-index l.least
