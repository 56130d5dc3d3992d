use Rattle.std.proofs.Common.{◌+◌, sym, subst, arith, inl, inr}
use Rattle.mesh_check.specs.Least.{IsLeast}
use Rattle.mesh_check.proofs.Twins.{AreTwins, more_twins, no_twins, all_twins}
use Rattle.mesh_check.proofs.spots.least_twins.Goals.{then-share_place, else-share_place}
use Rattle.mesh_check.proofs.spots.least_twins.Goals as goal

pub loop-i-preserved : goal.loop-i-preserved
loop-i-preserved c = (
  elim c.if-share_place.branch [
    | then-share_place w ↦ subst (IsLeast (AreTwins c.args.spots.now (c.loop-i.i + 1))) (sym w.least-is)
        (more_twins c.args.spots.now c.loop-i.i _ _ c.loop-i.least w.lesser.result c.loop-i.auto.i c.loop-i-test.true (c.share_place.ensures.0 w.if-share_place.true)
        w.lesser.ensures c.loop-i.invariant.0)
    | else-share_place w ↦ subst (IsLeast (AreTwins c.args.spots.now (c.loop-i.i + 1))) (sym w.least-is)
        (no_twins c.args.spots.now c.loop-i.i _ _ c.loop-i.least c.loop-i.auto.i c.loop-i-test.true (λ e. let f = c.share_place.ensures.1 e in let g = w.if-share_place.false in absurd (cc)) c.loop-i.invariant.0)
  ],
  inr (omega arith),
)

pub returns : goal.returns
returns c = all_twins c.args.points.now c.args.spots.now c.loop-i.i c.loop-i.least (record { x = lib.IntN.pos 0; y = lib.IntN.pos 0; index = 0 }) c.requires (omega arith)
    (λ n h k. elim c.loop-i.invariant.1 [ inl e ↦ absurd (omega arith) | inr l ↦ omega arith ]) c.loop-i.invariant.0
