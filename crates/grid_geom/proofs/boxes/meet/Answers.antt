use mir.Val.{SFits}
use mir.Syntax.{w64}
use Rattle.std.proofs.Common.{rules}
use Rattle.std.proofs.lemmas.Int.{to_z-of_z}
use Rattle.grid_geom.proofs.Booleans.{meet_test}
use Rattle.grid_geom.proofs.boxes.meet.Goals as goal

pub returns-then-a-b-2 : goal.returns-then-a-b-2
returns-then-a-b-2 c =
    let f0 : SFits w64 c.args.a.now.lo.x = search rules in
    let f1 : SFits w64 c.args.b.now.hi.x = search rules in
    let f2 : SFits w64 c.args.b.now.lo.x = search rules in
    let f3 : SFits w64 c.args.a.now.hi.x = search rules in
    let f4 : SFits w64 c.args.a.now.lo.y = search rules in
    let f5 : SFits w64 c.args.b.now.hi.y = search rules in
    let f6 : SFits w64 c.args.b.now.lo.y = search rules in
    let f7 : SFits w64 c.args.a.now.hi.y = search rules in
    simp to_z-of_z (meet_test c.args.a.now c.args.b.now (simp to_z-of_z at c.if-a-b.true) (simp to_z-of_z at c.if-b-a.true) (simp to_z-of_z at c.if-a-b-2.true))
