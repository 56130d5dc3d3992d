use Rattle.std.proofs.Common.{subst}
use Rattle.rule_match.specs.Base.{Tried}
use Rattle.rule_match.specs.Passed.{IsPassed}
use Rattle.rule_match.proofs.rule_search.try_rule.Goals as goal

pub returns : goal.returns
returns c =
    subst (λ (t : Tried). IsPassed t c.args.progress.now c.search.new.progress) c.new-trial.ensures
    (record { advance = c.in_ok-search.ensures.advance; least = λ b counted fits holds. (c.in_ok-search.ensures.settled b counted fits).least holds; excused = λ b counted fits. (c.in_ok-search.ensures.settled b counted fits).refused })
