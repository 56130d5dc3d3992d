use Rattle.std.proofs.Common.{◌≡◌, ◌+◌, take}
use Rattle.front_chain.specs.Front.{numbered_from}
use Rattle.run_log.proofs.viewing.opening.Given as goal

abbrev pub invariant-loop-line : goal.invariant-loop-line
invariant-loop-line l = (l.table.lines ≡ numbered_from 1 (take l.line-index l.lines)) × (l.table.next ≡ 1 + l.line-index)
