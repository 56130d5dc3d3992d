use Rattle.std.proofs.Common.{◌≡◌, ◌*◌, ◌^◌, ◌≤◌, length, take}
use Rattle.std.specs.Prelude.{sum_by}
use Rattle.run_log.proofs.summary.applications.Given as goal

abbrev pub invariant-loop-run : goal.invariant-loop-run
invariant-loop-run l = (l.count ≡ sum_by (λ d. length d.applications) (take l.run-index l.domains)) × (l.count ≤ 2 ^ 64 * l.run-index)
