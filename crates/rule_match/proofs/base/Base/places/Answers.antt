use Rattle.std.proofs.Common.{subst, sym}
use Rattle.std.specs.List.{All}
use Rattle.grid_geom.specs.Bounds.{IsOnGrid}
use Rattle.front_chain.specs.Front.{state_of}
use Rattle.rule_match.proofs.BaseLines.{near_on}
use Rattle.rule_match.proofs.base.Base.places.Goals as goal

pub point_near-requires : goal.point_near-requires
point_near-requires c = subst (All (λ n. IsOnGrid n.at)) (sym c.near-near.ensures.value) (near_on (state_of c.args.self.now.front) c.args.self.now.frame c.args.self.now.scope c.args.self.now.near c.args.self.now.lines c.near-near.ensures.base.surrounded)
