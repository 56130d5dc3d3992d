use Rattle.std.proofs.Common.{ap}
use Rattle.grid_geom.specs.Winding.{wind}
use Rattle.mesh_run.proofs.Bounded.{front_is_boundary, fronts_are_boundaries}
use Rattle.mesh_run.proofs.laws.law_front.Goals as goal

pub returns : goal.returns
returns c = record {
  edges = front_is_boundary;
  runs = fronts_are_boundaries;
  winds = λ d segments pieces q. ap (wind q) (front_is_boundary d segments pieces);
}
