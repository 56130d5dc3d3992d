use Rattle.std.proofs.Common.{length}
use Rattle.mesh_check.proofs.counts.+count_way.Given as goal

abbrev pub decreases-count_way : goal.decreases-count_way
decreases-count_way l = length l.rest.now
