use Rattle.mesh_run.proofs.StillNone.{still_none, stays_same}
use Rattle.mesh_run.proofs.laws.law_still.Goals as goal

pub returns : goal.returns
returns c = record { none = still_none; stays = stays_same }
