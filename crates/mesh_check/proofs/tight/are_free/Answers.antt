use Rattle.mesh_check.proofs.Noted.{rows_free}
use Rattle.mesh_check.proofs.tight.are_free.Goals as goal

pub returns : goal.returns
returns c = λ t. rows_free c.args.points.now c.in_ok-tree.tree.entries c.args.rows.now (c.in_ok-free.ensures t) c.in_ok-tree.ensures.all
