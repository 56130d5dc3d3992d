use Rattle.mesh_check.proofs.SideCounts.{first_apart, sides_differ}
use Rattle.mesh_check.proofs.difference.first_difference.Goals as goal

pub returns-then-ne-clause-some : goal.returns-then-ne-clause-some
returns-then-ne-clause-some c = first_apart c.args.first.now c.args.second.now c.loop-i.i _ _ c.lesser_side.result c.requires.first c.requires.second c.requires.long c.loop-i-test.true c.loop-i.invariant
    (sides_differ _ _ c.ne.result c.ne.ensures c.if-ne.true) c.lesser_side.ensures.one c.lesser_side.ensures.first c.lesser_side.ensures.second
