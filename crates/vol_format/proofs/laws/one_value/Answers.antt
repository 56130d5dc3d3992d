use Rattle.vol_format.proofs.Derived.{one_mesh}
use Rattle.vol_format.proofs.laws.one_value.Goals as goal

pub returns : goal.returns
returns c = one_mesh
