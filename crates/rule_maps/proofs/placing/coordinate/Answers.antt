use Rattle.rule_maps.proofs.Putting.{sum_of_rounded, coordinate_on, too_low, too_high}
use Rattle.rule_maps.proofs.placing.coordinate.Goals as goal
use Rattle.rule_maps.proofs.placing.coordinate.Goals.{else-z-via-then-z+else-z-2, else-z-via-else-z}

pub overflow_add-z : goal.overflow_add-z
overflow_add-z c = (sum_of_rounded c.args.from.now c.args.offset.now.top c.args.offset.now.bottom c.requires.from_on c.rounded.ensures.value c.rounded.ensures.small).fits

pub returns-then-z-2-clause-some : goal.returns-then-z-2-clause-some
returns-then-z-2-clause-some c = (coordinate_on (sum_of_rounded c.args.from.now c.args.offset.now.top c.args.offset.now.bottom c.requires.from_on c.rounded.ensures.value c.rounded.ensures.small) c.if-z.true c.if-z-2.true).value

pub returns-then-z-2-clause-on : goal.returns-then-z-2-clause-on
returns-then-z-2-clause-on c = (coordinate_on (sum_of_rounded c.args.from.now c.args.offset.now.top c.args.offset.now.bottom c.requires.from_on c.rounded.ensures.value c.rounded.ensures.small) c.if-z.true c.if-z-2.true).on

pub returns-else-z-clause-none : goal.returns-else-z-clause-none
returns-else-z-clause-none c = elim c.else-z.branch [
  | else-z-via-then-z+else-z-2 w ↦ too_high (sum_of_rounded c.args.from.now c.args.offset.now.top c.args.offset.now.bottom c.requires.from_on c.rounded.ensures.value c.rounded.ensures.small) w.if-z-2.false
  | else-z-via-else-z w ↦ too_low (sum_of_rounded c.args.from.now c.args.offset.now.top c.args.offset.now.bottom c.requires.from_on c.rounded.ensures.value c.rounded.ensures.small) w.if-z.false
]
