use Rattle.std.proofs.Common.{◌≡◌, ◌≤◌, ◌-◌, length}
use Rattle.std.specs.List.{AllByRecursion}
use Rattle.run_log.specs.Grammar.{domains}
use Rattle.run_log.specs.Reading.{read}
use Rattle.run_log.specs.View.{AreRising}
use Rattle.run_log.proofs.Loops.{with_front}
use Rattle.run_log.proofs.runs.domains.Given as goal

abbrev pub invariant-loop-runs : goal.invariant-loop-runs
invariant-loop-runs l = (length l.runs.items ≤ l.before) × (l.before ≤ 64)
    × (with_front l.runs.items (read (domains (65 - length l.runs.items) l.before) l.reader) ≡ read (domains 65 0) l.initial.reader)
    × AllByRecursion (λ run. run.domain ≤ l.before) l.runs.items
    × AreRising l.runs.items

abbrev pub decreases-loop-runs : goal.decreases-loop-runs
decreases-loop-runs l = 64 - l.before
