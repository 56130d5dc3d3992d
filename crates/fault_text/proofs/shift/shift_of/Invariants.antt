use Rattle.std.proofs.Common.{length}
use Rattle.fault_text.proofs.shift.shift_of.Given as goal

abbrev pub decreases-loop-word : goal.decreases-loop-word
decreases-loop-word l = length l.scanner.left
