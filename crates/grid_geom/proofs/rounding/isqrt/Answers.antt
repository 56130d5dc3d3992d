use mir.Val.{SFits}
use mir.Syntax.{w128}
use Rattle.std.proofs.lemmas.Int.{to_z-of_z}
use Rattle.grid_geom.proofs.Quotients.{root_cast}
use Rattle.grid_geom.proofs.rounding.isqrt.Goals as goal

pub returns-clause-small : goal.returns-clause-small
returns-clause-small c =
    let fn : SFits w128 c.args.n = c.ranges.n in let f : SFits w128 c.isqrt.result = record { sfits = c.isqrt.type_inv } in
    root_cast c.args.n c.isqrt.result f (simp to_z-of_z at c.isqrt.ensures) c.requires.not_negative c.requires.small
