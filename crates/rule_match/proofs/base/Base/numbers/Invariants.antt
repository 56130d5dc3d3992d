use Rattle.std.proofs.Common.{◌≡◌, map, take, ℕ}
use Rattle.rule_match.specs.Trying.{near_at}
use Rattle.rule_match.proofs.base.Base.numbers.Given as goal

abbrev pub invariant-loop-k : goal.invariant-loop-k
invariant-loop-k l = l.numbers ≡ map (λ (k : ℕ). (near_at l.self.near k).number) (take l.k-index l.chosen)
