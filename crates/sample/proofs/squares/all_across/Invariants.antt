use Rattle.std.proofs.Common.{◌≡◌, ◌/◌, ◌%◌, map}
use Rattle.std.specs.List.{range_with_len}
use Rattle.sample.specs.Squares.{across}
use Rattle.sample.proofs.squares.all_across.Given as goal

abbrev pub invariant-loop-k : goal.invariant-loop-k
invariant-loop-k l = l.rows.items ≡ map (λ k. across l.n (k % l.n) (k / l.n)) (range_with_len 0 l.k)
