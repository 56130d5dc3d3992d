use Rattle.std.proofs.Common.{length}
use Rattle.call_words.proofs.at_fault.+fault_from.Given as goal

abbrev pub decreases-fault_from : goal.decreases-fault_from
decreases-fault_from l = length l.words.now
