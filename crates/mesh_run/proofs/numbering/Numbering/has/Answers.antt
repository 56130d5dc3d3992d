use Rattle.std.proofs.Common.{sym, ◌∙◌}
use Rattle.mesh_run.proofs.SamePoints.{among_equal}
use Rattle.mesh_run.proofs.numbering.Numbering.has.Goals as goal

pub returns : goal.returns
returns c = rw (← c.self.view_is) (c.contains.ensures ∙ sym (among_equal c.args.point c.self.inside.points.keys))
