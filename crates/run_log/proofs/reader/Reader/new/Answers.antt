use Rattle.std.proofs.Common.{arith}
use Rattle.word_scan.proofs.Laws.{few_words}
use Rattle.run_log.proofs.reader.Reader.new.Goals as goal

pub invariant_of-result : goal.invariant_of-result
invariant_of-result c = rw c.new.ensures.start (omega (arith, few_words c.args.text.now))
