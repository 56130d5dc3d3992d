use Rattle.std.proofs.Common.{◌∙◌}
use Rattle.mesh_run.specs.Boundary.{whole_pieces}
use Rattle.mesh_run.proofs.Bounded.{front_is_boundary, fronts_are_whole_boundaries, whole_boundary}
use Rattle.mesh_run.proofs.laws.law_uncut.Goals as goal

pub returns : goal.returns
returns c = record {
  pieces = whole_boundary;
  front = λ d points segments. front_is_boundary d segments (whole_pieces points segments) ∙ whole_boundary d points segments;
  runs = fronts_are_whole_boundaries;
}
