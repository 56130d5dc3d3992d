use Rattle.std.proofs.Common.{◌≡◌, ℕ, ◌+◌, drop, ◌==◌}
use Rattle.std.specs.Ordering.{nat_cmp}
use Rattle.std.specs.BTreeMap as tree
use Rattle.std.specs.List.{position_from}
use Rattle.geom_check.proofs.placing.row_numbers.Given as goal

abbrev pub invariant-loop-i : goal.invariant-loop-i
invariant-loop-i l = (number : ℕ) → tree.get nat_cmp l.rows number ≡ position_from (λ row. row.number == number) (l.i + 1) (drop l.i l.points)
