use mir.Val.{SFits}
use mir.Syntax.{w64}
use Rattle.std.proofs.lemmas.Int.{to_z-of_z}
use Rattle.grid_geom.proofs.Booleans.{between_is, between_not}
use Rattle.grid_geom.proofs.segments.between.Goals as goal

pub returns-then-min-z : goal.returns-then-min-z
returns-then-min-z c =
    let fz : SFits w64 c.args.z = c.ranges.z in let fu : SFits w64 c.args.u = c.ranges.u in let fw : SFits w64 c.args.w = c.ranges.w in
    let fm : SFits w64 c.min.result = record { sfits = c.min.type_inv } in let fn : SFits w64 c.max.result = record { sfits = c.max.type_inv } in
    simp to_z-of_z (between_is c.args.z c.args.u c.args.w c.min.result c.max.result (simp to_z-of_z at c.min.ensures.value) (simp to_z-of_z at c.max.ensures.value) (simp to_z-of_z at c.if-min-z.true))

pub returns-else-min-z : goal.returns-else-min-z
returns-else-min-z c =
    let fz : SFits w64 c.args.z = c.ranges.z in let fu : SFits w64 c.args.u = c.ranges.u in let fw : SFits w64 c.args.w = c.ranges.w in
    let fm : SFits w64 c.min.result = record { sfits = c.min.type_inv } in
    (λ t. absurd (cc), λ b. absurd (between_not c.args.z c.args.u c.args.w c.min.result (simp to_z-of_z at c.min.ensures.value) (simp to_z-of_z at c.if-min-z.false) b))
