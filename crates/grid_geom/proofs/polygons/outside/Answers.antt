use mir.Val.{SFits}
use mir.Syntax.{w64}
use Rattle.std.proofs.lemmas.Int.{to_z-of_z}
use Rattle.grid_geom.proofs.Booleans.{outside_is}
use Rattle.grid_geom.proofs.polygons.outside.Goals as goal

pub returns-then-turn-le0 : goal.returns-then-turn-le0
returns-then-turn-le0 c =
    let fa : SFits w64 c.turn.result = record { sfits = c.turn.type_inv } in let fb : SFits w64 c.turn-then-turn-le0.result = record { sfits = c.turn-then-turn-le0.type_inv } in
    simp to_z-of_z (outside_is c.args.a c.args.b (record { a = c.args.from; b = c.args.to }) c.turn.result c.turn-then-turn-le0.result c.turn.ensures.value c.turn-then-turn-le0.ensures.value (simp to_z-of_z at c.if-turn-le0.true))
