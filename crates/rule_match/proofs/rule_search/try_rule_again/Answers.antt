use Rattle.std.proofs.Common.{subst}
use Rattle.rule_match.specs.Base.{Tried}
use Rattle.rule_match.specs.Passed.{IsPassedAgain}
use Rattle.rule_match.proofs.rule_search.try_rule_again.Goals as goal

pub returns : goal.returns
returns c =
    subst (λ (t : Tried). IsPassedAgain t c.args.positions.now c.args.progress.now c.search_fresh.new.progress) c.new-trial.ensures
    (record { advance = c.in_ok-search_fresh.ensures.advance; excused = λ b counted fits fresh. (c.in_ok-search_fresh.ensures.settled b counted fits fresh).refused })
