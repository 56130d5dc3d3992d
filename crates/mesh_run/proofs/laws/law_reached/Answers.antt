use Rattle.std.proofs.Common.{[]}
use Rattle.state_law.proofs.Region.{region_of}
use Rattle.mesh_run.specs.Reached.{elements_at, front_at}
use Rattle.mesh_run.proofs.Steps.{may_apply, reached_after, reached_opening}
use Rattle.mesh_run.proofs.laws.law_reached.Goals as goal

pub returns : goal.returns
returns c = record { opening = reached_opening; may = may_apply; after = reached_after; region = λ b st r. region_of b [] (front_at st) (elements_at st) r.kept }
