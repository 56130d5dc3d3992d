use Rattle.mesh_run.proofs.SamePoints.{with_equal}
use Rattle.mesh_run.proofs.numbering.Numbering.add.Goals as goal

pub returns : goal.returns
returns c = rw (c.in_ok-insert.ensures.keys, ← c.self.view_is) (with_equal c.args.point c.self.inside.points.keys)
