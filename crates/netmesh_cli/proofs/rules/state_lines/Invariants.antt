use Rattle.std.proofs.Common.{take}
use Rattle.netmesh_cli.specs.Listed.{AreStateLines}
use Rattle.netmesh_cli.proofs.rules.state_lines.Given as goal

abbrev pub invariant-loop-k : goal.invariant-loop-k
invariant-loop-k l = AreStateLines (take l.k l.rules) l.text.items
