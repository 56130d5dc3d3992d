use Rattle.std.proofs.Common.{subst, sym}
use Rattle.std.specs.List.{All}
use Rattle.grid_geom.specs.Bounds.{IsOnGrid}
use Rattle.front_chain.specs.Front.{state_of}
use Rattle.rule_match.proofs.BaseLines.{near_on}
use Rattle.rule_match.proofs.front_trial.FrontTrial.new.Goals as goal

pub new-requires : goal.new-requires
new-requires c = subst (All (λ n. IsOnGrid n.at)) (sym c.near.ensures.value) (near_on (state_of c.args.base.now.front) c.args.base.now.frame c.args.base.now.scope c.args.base.now.near c.args.base.now.lines c.near.ensures.base.surrounded)
