use Rattle.std.proofs.Common.{◌≡◌, ◌≤◌, ◌-◌, length, []}
use Rattle.vol_format.specs.Reading.{run, rows_behind}
use Rattle.vol_format.proofs.rows.rows.Given as goal

abbrev pub invariant-loop-alloc : goal.invariant-loop-alloc
invariant-loop-alloc g l = (length l.rows.items ≤ l.count)
    × (run (rows_behind g.T.Row.form l.rows.items (l.count - length l.rows.items)) l.reader ≡ run (rows_behind g.T.Row.form [] l.count) l.initial.reader)

abbrev pub decreases-loop-alloc : goal.decreases-loop-alloc
decreases-loop-alloc g l = l.count - length l.rows.items
