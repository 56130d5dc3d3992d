use Rattle.grid_geom.proofs.SharedEnds.{shares_tangle, tangle_shares}
use Rattle.grid_geom.proofs.laws.law_tangle.Goals as goal

pub returns : goal.returns
returns c = record { untangled = shares_tangle; tangled = tangle_shares }
