use Rattle.rule_match.proofs.ReachBoxes.{height_fits, product_fits, sum_fits, steps_are, within_width}
use Rattle.rule_match.proofs.out_of_reach.widening_on_grid.Goals as goal

pub overflow_cast-high : goal.overflow_cast-high
overflow_cast-high c = height_fits c.args.reach c.min-reach.result c.args.frame.now c.h-high.result (record { lesser = c.min-reach.ensures; is_frame = c.h-high.ensures.frame; high = c.h-high.ensures.value })

pub overflow_mul-reach-2 : goal.overflow_mul-reach-2
overflow_mul-reach-2 c = product_fits c.args.reach c.min-reach.result c.args.frame.now c.h-high.result (record { lesser = c.min-reach.ensures; is_frame = c.h-high.ensures.frame; high = c.h-high.ensures.value })

pub overflow_add-reach : goal.overflow_add-reach
overflow_add-reach c = sum_fits c.args.reach c.min-reach.result c.args.frame.now c.h-high.result (record { lesser = c.min-reach.ensures; is_frame = c.h-high.ensures.frame; high = c.h-high.ensures.value })

pub returns-clause-value : goal.returns-clause-value
returns-clause-value c =
    steps_are c.args.reach c.min-reach.result c.args.frame.now c.h-high.result (record { lesser = c.min-reach.ensures; is_frame = c.h-high.ensures.frame; high = c.h-high.ensures.value }) c.min.result c.min.ensures.value

pub returns-clause-within : goal.returns-clause-within
returns-clause-within c =
    within_width c.args.reach c.min-reach.result c.args.frame.now c.h-high.result (record { lesser = c.min-reach.ensures; is_frame = c.h-high.ensures.frame; high = c.h-high.ensures.value }) c.min.result c.min.ensures.value
