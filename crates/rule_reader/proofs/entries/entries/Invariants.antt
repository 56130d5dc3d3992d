use Rattle.std.proofs.Common.{◌≡◌, ◌≤◌, ◌-◌, length}
use Rattle.rule_reader.specs.Reading.{entries_at}
use Rattle.rule_reader.proofs.Loops.{with_front}
use Rattle.rule_reader.proofs.entries.entries.Given as goal

abbrev pub invariant-loop-alloc : goal.invariant-loop-alloc
invariant-loop-alloc g l = (length l.entries.items ≤ l.most) × (with_front l.entries.items (entries_at g.E.Entry.at l.what (length l.entries.items) (l.most - length l.entries.items) l.reader) ≡ entries_at g.E.Entry.at l.what 0 l.most l.initial.reader)

abbrev pub decreases-loop-alloc : goal.decreases-loop-alloc
decreases-loop-alloc g l = l.most - length l.entries.items
