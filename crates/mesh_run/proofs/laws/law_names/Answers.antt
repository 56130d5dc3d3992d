use Rattle.mesh_run.proofs.NamedRuns.{run_named, runs_named}
use Rattle.mesh_run.proofs.laws.law_names.Goals as goal

pub returns : goal.returns
returns c = record {
  names = λ g rules options d r h above can run. (run_named g rules options d r h above can run).names;
  front = λ g rules options d r h above can run. (run_named g rules options d r h above can run).front;
  on_grid = λ g rules options d r h above can run. (run_named g rules options d r h above can run).on_grid;
  runs = runs_named;
}
