use Rattle.std.proofs.Common.{length}
use Rattle.match_tests.proofs.gluing.+do_differ.Given as goal

abbrev pub decreases-do_differ : goal.decreases-do_differ
decreases-do_differ l = length l.made.now
