use Rattle.std.proofs.Common.{length}
use Rattle.fault_text.proofs.rules.head_word.Given as goal

abbrev pub decreases-loop-word : goal.decreases-loop-word
decreases-loop-word l = length l.scanner.left
