use Rattle.rule_match.proofs.OverRules.{none_may_all, none_of_all, some_may}
use Rattle.rule_match.proofs.least.some_may_apply.Goals as goal

pub returns-then-may_apply-clause-some : goal.returns-then-may_apply-clause-some
returns-then-may_apply-clause-some c told =
    some_may c.args.class c.loop-position.position c.count-position-end.result c.args.rules.now c.get.result.now c.count-position-end.ensures c.loop-position-test.true c.get.ensures (c.may_apply.ensures.live c.if-may_apply.true)
    (c.may_apply.ensures.quality c.if-may_apply.true)

pub returns-clause-none : goal.returns-clause-none
returns-clause-none c told = none_of_all c.args.class c.loop-position.position c.count-position-end.result c.args.rules.now c.count-position-end.ensures c.loop-position-test.false c.loop-position.invariant

pub returns-clause-none_may : goal.returns-clause-none_may
returns-clause-none_may c told = none_may_all c.args.class c.loop-position.position c.count-position-end.result c.args.rules.now c.count-position-end.ensures c.loop-position-test.false c.loop-position.invariant
