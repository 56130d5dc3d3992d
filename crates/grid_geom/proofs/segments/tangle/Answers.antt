use Rattle.grid_geom.proofs.SharedEnds.{tangle_test}
use Rattle.std.proofs.Common.{rules}
use Rattle.grid_geom.proofs.segments.tangle.Goals as goal

pub returns-then-same_ends-clause-shared : goal.returns-then-same_ends-clause-shared
returns-then-same_ends-clause-shared c = tangle_test c.args.a c.args.b c.args.c c.args.d _ (search rules)

pub returns-then-end_inside-clause-shared : goal.returns-then-end_inside-clause-shared
returns-then-end_inside-clause-shared c = tangle_test c.args.a c.args.b c.args.c c.args.d _ (search rules)

pub returns-then-end_inside-2-clause-shared : goal.returns-then-end_inside-2-clause-shared
returns-then-end_inside-2-clause-shared c = tangle_test c.args.a c.args.b c.args.c c.args.d _ (search rules)

pub returns-else-end_inside-2-clause-shared : goal.returns-else-end_inside-2-clause-shared
returns-else-end_inside-2-clause-shared c = tangle_test c.args.a c.args.b c.args.c c.args.d _ (search rules)
