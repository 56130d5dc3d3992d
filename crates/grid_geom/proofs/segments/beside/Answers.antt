use mir.Val.{SFits}
use mir.Syntax.{w64}
use Rattle.std.proofs.lemmas.Int.{to_z-of_z}
use Rattle.grid_geom.proofs.Booleans.{beside_left, beside_right}
use Rattle.grid_geom.proofs.segments.beside.Goals as goal

pub returns-then-to_c-gt0 : goal.returns-then-to_c-gt0
returns-then-to_c-gt0 c = let fc : SFits w64 c.turn-to_c.result = record { sfits = c.turn-to_c.type_inv } in let fd : SFits w64 c.turn-to_d.result = record { sfits = c.turn-to_d.type_inv } in simp to_z-of_z (beside_left c.args.a c.args.b c.args.c c.args.d c.turn-to_c.result c.turn-to_d.result c.turn-to_c.ensures.value c.turn-to_d.ensures.value (simp to_z-of_z at c.if-to_c-gt0.true))

pub returns-then-to_c-lt0 : goal.returns-then-to_c-lt0
returns-then-to_c-lt0 c = let fc : SFits w64 c.turn-to_c.result = record { sfits = c.turn-to_c.type_inv } in let fd : SFits w64 c.turn-to_d.result = record { sfits = c.turn-to_d.type_inv } in simp to_z-of_z (beside_right c.args.a c.args.b c.args.c c.args.d c.turn-to_c.result c.turn-to_d.result c.turn-to_c.ensures.value c.turn-to_d.ensures.value (simp to_z-of_z at c.if-to_c-lt0.true))
