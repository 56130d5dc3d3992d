use Rattle.std.proofs.Common.{length}
use Rattle.match_tests.proofs.gluing.+are_listed.Given as goal

abbrev pub decreases-are_listed : goal.decreases-are_listed
decreases-are_listed l = length l.element.now
