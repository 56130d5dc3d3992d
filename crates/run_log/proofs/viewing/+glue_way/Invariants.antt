use Rattle.std.proofs.Common.{length}
use Rattle.run_log.proofs.viewing.+glue_way.Given as goal

abbrev pub decreases-glue_way : goal.decreases-glue_way
decreases-glue_way l = length l.rest.now
