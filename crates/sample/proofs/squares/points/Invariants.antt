use Rattle.std.proofs.Common.{◌≡◌, ◌/◌, ◌%◌, map}
use Rattle.std.specs.List.{range_with_len}
use Rattle.sample.specs.Squares.{point_row}
use Rattle.sample.proofs.squares.points.Given as goal

abbrev pub invariant-loop-k : goal.invariant-loop-k
invariant-loop-k l = l.rows.items ≡ map (λ k. point_row l.n (k % l.columns) (k / l.columns)) (range_with_len 0 l.k)
