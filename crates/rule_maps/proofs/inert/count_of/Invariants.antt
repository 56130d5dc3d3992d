use Rattle.std.proofs.Common.{◌≡◌, ◌+◌, ◌≤◌, drop}
use Rattle.rule_maps.specs.Inert.{count}
use Rattle.rule_maps.proofs.inert.count_of.Given as goal

abbrev pub invariant-loop-pair : goal.invariant-loop-pair
invariant-loop-pair l = record {
  ahead : l.times + count (drop l.pair-index l.pairs) l.i l.j ≡ count l.pairs l.i l.j;
  small : l.times ≤ l.pair-index;
}
