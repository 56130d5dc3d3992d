use Rattle.std.proofs.Common.{◌≡◌, ◌≤◌, ◌-◌, length}
use Rattle.run_log.specs.Form.{many}
use Rattle.run_log.specs.Reading.{read}
use Rattle.run_log.proofs.Loops.{with_front}
use Rattle.run_log.proofs.lists.many.Given as goal

abbrev pub invariant-loop-alloc : goal.invariant-loop-alloc
invariant-loop-alloc g l = (length l.items.items ≤ l.count) × (with_front l.items.items (read (many (l.count - length l.items.items) (g.R.Row.form l.points)) l.reader) ≡ read (many l.count (g.R.Row.form l.points)) l.initial.reader)

abbrev pub decreases-loop-alloc : goal.decreases-loop-alloc
decreases-loop-alloc g l = l.count - length l.items.items
