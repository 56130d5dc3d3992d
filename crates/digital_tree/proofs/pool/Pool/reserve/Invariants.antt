use Rattle.std.proofs.Common.{◌≤◌, length}
use Rattle.digital_tree.proofs.pool.Pool.reserve.Given as goal

abbrev pub invariant-loop-made : goal.invariant-loop-made
invariant-loop-made g l = (length l.initial.self-inside.forks.items ≤ length l.self-inside.forks.items) × (l._made ≤ length l.self-inside.forks.items)
