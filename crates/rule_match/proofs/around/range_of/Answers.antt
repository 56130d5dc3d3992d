use Rattle.rule_match.proofs.NearPlaces.{fourfold}
use Rattle.rule_match.proofs.around.range_of.Goals as goal

pub overflow_cast-result : goal.overflow_cast-result
overflow_cast-result c = (fourfold c.args.frame.now c.h.result c.h.ensures.frame c.h.ensures.value).fits

pub overflow_mul-result : goal.overflow_mul-result
overflow_mul-result c = (fourfold c.args.frame.now c.h.result c.h.ensures.frame c.h.ensures.value).four_fits

pub returns-clause-value : goal.returns-clause-value
returns-clause-value c = (fourfold c.args.frame.now c.h.result c.h.ensures.frame c.h.ensures.value).value

pub returns-clause-small : goal.returns-clause-small
returns-clause-small c = (fourfold c.args.frame.now c.h.result c.h.ensures.frame c.h.ensures.value).small
