use Rattle.std.proofs.Common.{◌∙◌, ap, rules, not, filter, nat_eq, arith}
use Rattle.std.specs.List.{list_any}
use Rattle.std.proofs.lemmas.Fn.{filter_same}
use Rattle.front_chain.specs.Tables.{is_positive}
use Rattle.front_chain.proofs.Above.{positive_leaves}
use Rattle.front_chain.proofs.Lines.{all_above}
use Rattle.front_chain.proofs.Boxed.{boxes_walk}
use Rattle.front_chain.proofs.chain.Chain.use_starts.Goals as goal

pub returns-clause-waiting : goal.returns-clause-waiting
returns-clause-waiting c = filter_same _ (λ n. not (is_positive c.self.inside.leaving.items n)) _ (λ n b f' called. search rules) _ _ c.retain.ensures.filtered
    ∙ (λ i. filter (λ n. not (positive_leaves c.self.invariant.0 n i)) c.self.inside.waiting.items)
    ∙ ap (λ v. filter (λ n. not (list_any (λ line. nat_eq line.1 n) v.lines)) v.waiting) c.self.view_is

pub returns-clause-walked : goal.returns-clause-walked
returns-clause-walked c = boxes_walk c.self.invariant.2

pub returns-clause-positive : goal.returns-clause-positive
returns-clause-positive c = all_above 0 1 c.self.inside.order.made (omega arith)
