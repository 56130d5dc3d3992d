use Rattle.rule_match.proofs.Advances.{begins_chain, begins_same}
use Rattle.rule_match.proofs.OverRules.{so_far_none}
use Rattle.rule_match.proofs.least.pass_rules.Goals as goal

pub loop-position-init : goal.loop-position-init
loop-position-init c = (so_far_none c.args.base.now c.args.rules.now c.args.progress.now c.requires, begins_same c.args.progress.now.notes.items)

pub loop-position-preserved : goal.loop-position-preserved
loop-position-preserved c = (
  c.in_ok-pass_rule.ensures.so_far,
  begins_chain c.pass_rule.new.progress.notes.items c.loop-position.progress.notes.items c.args.progress.now.notes.items c.in_ok-pass_rule.ensures.kept c.loop-position.invariant.1,
)
