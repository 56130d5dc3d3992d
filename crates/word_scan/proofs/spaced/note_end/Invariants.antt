use Rattle.std.proofs.Common.{length, ◌-◌, ◌≡◌, ℕ, ◌≤◌, drop}
use Rattle.word_scan.specs.Scan.{InNote, words_from}
use Rattle.word_scan.specs.Tokens.{InRemark, tokens_from}
use Rattle.word_scan.proofs.spaced.note_end.Given as goal

abbrev pub invariant-loop-end : goal.invariant-loop-end
invariant-loop-end l = (l.start ≤ l.end) × (l.end ≤ length l.text)
    × ((at : ℕ) → words_from InNote at l.start (drop l.start l.text) ≡ words_from InNote at l.end (drop l.end l.text))
    × ((at : ℕ) → tokens_from InRemark at l.start (drop l.start l.text) ≡ tokens_from InRemark at l.end (drop l.end l.text))

abbrev pub decreases-loop-end : goal.decreases-loop-end
decreases-loop-end l = length l.text - l.end
