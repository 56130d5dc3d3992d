use Rattle.std.proofs.Common.{◌≡◌, ◌+◌, ◌*◌, ◌≤◌, drop}
use Rattle.rule_maps.specs.declared.reach.TheConstants.{SHARE}
use Rattle.rule_maps.specs.Reach.{stretch}
use Rattle.rule_maps.proofs.reach.stretch.Given as goal

abbrev pub invariant-loop-term : goal.invariant-loop-term
invariant-loop-term l = record {
  ahead : l.sum + stretch l.leeways (drop l.term-index l.row) ≡ stretch l.leeways l.row;
  small : l.sum ≤ l.term-index * SHARE;
}
