use Rattle.std.proofs.Common.{◌∙◌, ap, rules, not, nat_eq, arith}
use Rattle.std.specs.List.{list_any}
use Rattle.std.proofs.lemmas.Fn.{filter_same}
use Rattle.front_chain.specs.Front.{still_waiting}
use Rattle.front_chain.proofs.Lines.{all_above}
use Rattle.front_chain.proofs.Boxed.{boxes_walk}
use Rattle.front_chain.proofs.chain.Chain.use_points.Goals as goal

pub returns-clause-waiting : goal.returns-clause-waiting
returns-clause-waiting c = filter_same _ (λ n. not (list_any (nat_eq n) c.args.used.now)) _ (λ n b f' called. search rules) _ _ c.retain.ensures.filtered ∙ ap (λ v. still_waiting v.waiting c.args.used.now) c.self.view_is

pub returns-clause-walked : goal.returns-clause-walked
returns-clause-walked c = boxes_walk c.self.invariant.2

pub returns-clause-positive : goal.returns-clause-positive
returns-clause-positive c = all_above 0 1 c.self.inside.order.made (omega arith)
