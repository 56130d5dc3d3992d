use Rattle.std.proofs.Common.{◌≡◌, ◌+◌, ℕ, List, add-one, arith}
use Rattle.rule_reader.specs.Verdict.{own, own_below}
use Rattle.rule_reader.proofs.verdict.own_below.Goals as goal

one_more : (labels : List ℕ) (n : ℕ) → own_below labels (n + 1) ≡ own_below labels n + own labels n
one_more labels n = rw add-one

pub loop-number-preserved : goal.loop-number-preserved
loop-number-preserved c = (omega (arith, c.loop-number.invariant.0, c.own-count.ensures.value, one_more c.args.labels.now c.loop-number.number), omega (arith, c.loop-number.invariant.1, c.own-count.ensures.small))
