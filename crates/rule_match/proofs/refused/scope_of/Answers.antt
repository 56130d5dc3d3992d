use Rattle.rule_match.proofs.OverRules.{holds_few}
use Rattle.rule_match.proofs.refused.scope_of.Goals as goal

pub returns : goal.returns
returns c = λ few. holds_few c.new-these.result.items (c.do_few_suffice.ensures c.if-not-do_few_suffice.false) c.in_ok-push.ensures.items c.in_ok-push-2.ensures.items c.in_ok-extend_from_slice.ensures.items
