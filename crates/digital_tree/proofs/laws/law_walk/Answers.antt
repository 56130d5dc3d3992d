use Rattle.digital_tree.proofs.WalkLaws.{walks}
use Rattle.digital_tree.proofs.laws.law_walk.Goals as goal

pub returns : goal.returns
returns g c = walks
