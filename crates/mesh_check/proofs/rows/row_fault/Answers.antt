use Rattle.std.proofs.Common.{[], refl}
use Rattle.mesh_check.specs.Walked.{places_of}
use Rattle.mesh_check.proofs.Walks.{begun}
use Rattle.mesh_check.proofs.rows.row_fault.Goals as goal

pub loop-i-init : goal.loop-i-init
loop-i-init c = (begun c.args.g.now (places_of c.args.g.now c.args.m.now) 0 [] c.begin-stand.result c.begin-stand.ensures.geometry refl c.begin-stand.ensures.none c.begin-stand.ensures.some refl, c.begin-stand.ensures.on_grid)
