use mir.Val.{SFits}
use mir.Syntax.{w64}
use Rattle.std.proofs.lemmas.Int.{to_z-of_z}
use Rattle.grid_geom.proofs.Booleans.{spans_is, spans_not}
use Rattle.grid_geom.proofs.segments.spans_meet.Goals as goal

pub returns-then-min-max : goal.returns-then-min-max
returns-then-min-max c =
    let fu : SFits w64 c.args.u = c.ranges.u in let fw : SFits w64 c.args.w = c.ranges.w in let fy : SFits w64 c.args.y = c.ranges.y in let fz : SFits w64 c.args.z = c.ranges.z in
    let fk : SFits w64 c.min.result = record { sfits = c.min.type_inv } in let fl : SFits w64 c.max.result = record { sfits = c.max.type_inv } in
    let fm : SFits w64 c.min-then-min-max.result = record { sfits = c.min-then-min-max.type_inv } in let fn : SFits w64 c.max-then-min-max.result = record { sfits = c.max-then-min-max.type_inv } in
    simp to_z-of_z (spans_is c.args.u c.args.w c.args.y c.args.z c.min-then-min-max.result c.max-then-min-max.result (simp to_z-of_z at c.min.ensures.value) (simp to_z-of_z at c.max.ensures.value) (simp to_z-of_z at c.min-then-min-max.ensures.value) (simp to_z-of_z at c.max-then-min-max.ensures.value) (simp to_z-of_z at c.if-min-max.true))

pub returns-else-min-max : goal.returns-else-min-max
returns-else-min-max c =
    let fu : SFits w64 c.args.u = c.ranges.u in let fw : SFits w64 c.args.w = c.ranges.w in let fy : SFits w64 c.args.y = c.ranges.y in let fz : SFits w64 c.args.z = c.ranges.z in
    let fk : SFits w64 c.min.result = record { sfits = c.min.type_inv } in let fl : SFits w64 c.max.result = record { sfits = c.max.type_inv } in
    (λ t. absurd (cc), λ b. absurd (spans_not c.args.u c.args.w c.args.y c.args.z (simp to_z-of_z at c.min.ensures.value) (simp to_z-of_z at c.max.ensures.value) (simp to_z-of_z at c.if-min-max.false) b))
