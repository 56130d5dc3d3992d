use mir.Val.{SFits}
use mir.Syntax.{w64}
use Rattle.std.proofs.Common.{rules}
use Rattle.std.proofs.lemmas.Int.{to_z-of_z}
use Rattle.grid_geom.proofs.segments.boxes_meet.Goals as goal

pub returns-then-spans_meet : goal.returns-then-spans_meet
returns-then-spans_meet c =
    let f0 : SFits w64 c.args.a.x = search rules in
    let f1 : SFits w64 c.args.b.x = search rules in
    let f2 : SFits w64 c.args.c.x = search rules in
    let f3 : SFits w64 c.args.d.x = search rules in
    let f4 : SFits w64 c.args.a.y = search rules in
    let f5 : SFits w64 c.args.b.y = search rules in
    let f6 : SFits w64 c.args.c.y = search rules in
    let f7 : SFits w64 c.args.d.y = search rules in
    let across = simp to_z-of_z at c.spans_meet.ensures in
    let along = simp to_z-of_z at c.spans_meet-then-spans_meet.ensures in
    (λ t. record { columns = across.0 c.if-spans_meet.true; rows = along.0 t }, λ h. along.1 h.rows)
