use Rattle.std.proofs.Common.{◌≡◌, take}
use Rattle.run_log.specs.Table.{lines_from}
use Rattle.run_log.proofs.table.Table.rows.Given as goal

abbrev pub invariant-loop-place : goal.invariant-loop-place
invariant-loop-place l = l.rows.items ≡ lines_from 1 (take l.place l.self-inside.made.items)
