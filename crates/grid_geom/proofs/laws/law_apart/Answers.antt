use Rattle.grid_geom.proofs.Entering.{apart_none, apart_enters, unentered_apart}
use Rattle.grid_geom.proofs.laws.law_apart.Goals as goal

pub returns : goal.returns
returns c = record { none = apart_none; enters = apart_enters; apart = unentered_apart }
