use mir.Val.{SFits}
use mir.Syntax.{w64}
use Rattle.std.proofs.Common.{rules}
use Rattle.std.proofs.lemmas.Int.{to_z-of_z}
use Rattle.grid_geom.proofs.segments.in_box.Goals as goal

pub returns-then-between : goal.returns-then-between
returns-then-between c =
    let f0 : SFits w64 c.args.p.x = search rules in
    let f1 : SFits w64 c.args.a.x = search rules in
    let f2 : SFits w64 c.args.b.x = search rules in
    let f3 : SFits w64 c.args.p.y = search rules in
    let f4 : SFits w64 c.args.a.y = search rules in
    let f5 : SFits w64 c.args.b.y = search rules in
    let across = simp to_z-of_z at c.between.ensures in
    let along = simp to_z-of_z at c.between-then-between.ensures in
    (λ t. record { columns = across.0 c.if-between.true; rows = along.0 t }, λ h. along.1 h.rows)
