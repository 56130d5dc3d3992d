use Rattle.mesh_run.proofs.Named.{front_named, rows_named, mesh_on_grid}
use Rattle.mesh_run.proofs.laws.law_ranges.Goals as goal

pub returns : goal.returns
returns c = record { front = front_named; rows = rows_named; on_grid = mesh_on_grid }
