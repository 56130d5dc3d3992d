use native.Mathlib.Omega.{arith}
use Rattle.std.proofs.Common.{pos, false}
use Rattle.std.proofs.lemmas.Int.{ints}
use Rattle.std.proofs.lemmas.List.{at_drop_more}
use mir.Val.{to_z}
use mir.Syntax.{w128}
use Rattle.rule_maps.specs.Sums.{moving}
use Rattle.rule_maps.proofs.Summing.{weighted_more, weighted_small}
use Rattle.rule_maps.proofs.sums.moving.Goals as goal

pub loop-term-preserved : goal.loop-term-preserved
loop-term-preserved c = rw (weighted_more (to_z w128 c.loop-term.sum-bits) c.weighted-sum.result c.loop-term.term-index (omega (arith, c.requires.row.0, c.loop-term-test.true)) c.loop-term.invariant.small c.weighted-sum.ensures.small) (record {
  ahead = omega (arith, ints, c.loop-term.invariant.ahead, c.weighted-sum.ensures.value, at_drop_more (moving c.args.f.now c.args.mapped.now) c.args.row.now c.loop-term.term-index (record { coefficient = pos 0; of_y = false; point = 0 }) (omega (arith, c.loop-term-test.true)));
  small = weighted_small (to_z w128 c.loop-term.sum-bits) c.weighted-sum.result c.loop-term.term-index c.loop-term.invariant.small c.weighted-sum.ensures.small;
})
