use Rattle.std.proofs.Common.{◌≡◌, sym, subst, arith}
use Rattle.std.specs.List.{All}
use Rattle.std.proofs.lemmas.Grind.{common_steps}
use Rattle.mesh_run.specs.Boundary.{whole_pieces, IsPieceOf}
use Rattle.mesh_run.proofs.Ranges.{whole_pieces_of}
use Rattle.mesh_run.proofs.boundary.uncut.Goals as goal

pub returns-clause-of_segments : goal.returns-clause-of_segments
returns-clause-of_segments c =
    let pieces : c.from_vec.result ≡ whole_pieces c.args.points.now c.args.segments.now = grind (arith, common_steps) in
    subst (All (IsPieceOf c.args.segments.now)) (sym pieces) (whole_pieces_of c.args.points.now c.args.segments.now)
