use Rattle.std.proofs.Common.{◌≡◌, map, take, ℕ}
use Rattle.rule_match.proofs.around.starts_of.Given as goal

abbrev pub invariant-loop-line : goal.invariant-loop-line
invariant-loop-line l = l.numbers.items ≡ map (λ (line : ℕ × ℕ). line.0) (take l.line-index l.lines)
