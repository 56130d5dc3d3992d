use mir.Val.{SFits}
use mir.Syntax.{w128}
use Rattle.std.proofs.lemmas.Int.{to_z-of_z}
use Rattle.grid_geom.proofs.Quotients.{rounded}
use Rattle.grid_geom.proofs.rounding.round_div.Goals as goal

pub returns-clause-least : goal.returns-clause-least
returns-clause-least c = let f : SFits w128 c.div_euclid.result = record { sfits = c.div_euclid.type_inv } in simp to_z-of_z (rounded c.args.n c.args.d c.div_euclid.result c.requires.n_small c.requires.d_positive c.requires.d_small c.div_euclid.ensures).least

pub returns-clause-greatest : goal.returns-clause-greatest
returns-clause-greatest c = let f : SFits w128 c.div_euclid.result = record { sfits = c.div_euclid.type_inv } in simp to_z-of_z (rounded c.args.n c.args.d c.div_euclid.result c.requires.n_small c.requires.d_positive c.requires.d_small c.div_euclid.ensures).greatest
