use Rattle.std.proofs.Common.{◌≡◌, ◌≤◌, ◌-◌, ℕ, ◌<◌, length, get_or, true}
use Rattle.word_scan.specs.Tokens.{is_inside}
use Rattle.word_scan.proofs.tokens.text_len.Given as goal

abbrev pub invariant-loop-end : goal.invariant-loop-end
invariant-loop-end l = (l.end ≤ length l.bytes) × ((k : ℕ) → k < l.end → is_inside (get_or l.bytes k 0) ≡ true)

abbrev pub decreases-loop-end : goal.decreases-loop-end
decreases-loop-end l = length l.bytes - l.end
