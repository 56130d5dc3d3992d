use Rattle.std.proofs.Common.{length}
use Rattle.mesh_check.proofs.hanging.+least_way.Given as goal

abbrev pub decreases-least_way : goal.decreases-least_way
decreases-least_way l = length l.rest.now
