use Rattle.std.proofs.Common.{◌≡◌, take, ◌++◌}
use Rattle.rule_match.proofs.front_trial.joined.Given as goal

abbrev pub invariant-loop-p : goal.invariant-loop-p
invariant-loop-p l = l.all ≡ take l.p-index l.first

abbrev pub invariant-loop-p-2 : goal.invariant-loop-p-2
invariant-loop-p-2 l = l.all ≡ l.first ++ take l.p-index l.second
