use Rattle.geom_check.specs.Risers.{is_chosen}
use Rattle.geom_check.proofs.Walks.{IsWalked}
use Rattle.geom_check.proofs.strips.faulty.Given as goal

abbrev pub invariant-loop-j : goal.invariant-loop-j
invariant-loop-j l = IsWalked (is_chosen l.chosen) l.passing l.j l.easts l.wests
