use Rattle.std.proofs.Common.{◌≡◌, ◌≤◌, ◌-◌, length}
use Rattle.run_log.specs.Grammar.{applications, all_points}
use Rattle.run_log.specs.Reading.{read}
use Rattle.run_log.proofs.Loops.{with_front}
use Rattle.run_log.proofs.applied.applications.Given as goal

abbrev pub invariant-loop-alloc : goal.invariant-loop-alloc
invariant-loop-alloc l = (length l.made.items ≤ l.count)
    × (with_front l.made.items (read (applications (l.count - length l.made.items) (length l.points.items)) l.reader) ≡ read (applications l.count (length l.initial.points.items)) l.initial.reader)
    × (l.points.items ≡ all_points l.initial.points.items l.made.items)

abbrev pub decreases-loop-alloc : goal.decreases-loop-alloc
decreases-loop-alloc l = l.count - length l.made.items
