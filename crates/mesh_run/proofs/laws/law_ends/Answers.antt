use Rattle.mesh_run.proofs.Ended.{done_is_empty, never_stopped, nothing_left, whole_done, whole_stuck}
use Rattle.mesh_run.proofs.laws.law_ends.Goals as goal

pub returns : goal.returns
returns c = record { done = whole_done; stuck = whole_stuck; nothing = nothing_left; unstopped = never_stopped; domain = done_is_empty }
