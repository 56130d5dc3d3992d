use Rattle.std.proofs.Common.{◌≡◌, ◌≤◌, ◌-◌, length}
use Rattle.rule_reader.specs.Sections.{rules_at}
use Rattle.rule_reader.proofs.Loops.{with_front}
use Rattle.rule_reader.proofs.text.rules.Given as goal

abbrev pub invariant-loop-alloc : goal.invariant-loop-alloc
invariant-loop-alloc l = (length l.rules.items ≤ 256) × (with_front l.rules.items (rules_at (length l.rules.items) (256 - length l.rules.items) l.reader) ≡ rules_at 0 256 l.initial.reader)

abbrev pub decreases-loop-alloc : goal.decreases-loop-alloc
decreases-loop-alloc l = 256 - length l.rules.items
