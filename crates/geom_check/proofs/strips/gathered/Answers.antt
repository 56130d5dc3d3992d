use Rattle.std.proofs.Common.{sym, ◌∙◌, ap, arith}
use Rattle.geom_check.proofs.Gathering.{gather_more, gather_same}
use Rattle.geom_check.proofs.StripWinding.{passing_test}
use Rattle.geom_check.proofs.strips.gathered.Goals as goal
use Rattle.geom_check.proofs.strips.gathered.Goals.{then-does_pass+in_ok-push, else-does_pass}

pub loop-riser-preserved : goal.loop-riser-preserved
loop-riser-preserved c = elim c.if-does_pass.branch [
  | then-does_pass+in_ok-push w ↦
      gather_more c.args.strip.now.low c.args.strip.now.high c.args.risers.now c.loop-riser.riser-index _ c.loop-riser.gathered.items c.if-does_pass.gathered.items w.passing_at.result (omega arith) (sym c.does_pass.ensures ∙ w.if-does_pass.true)
      (passing_test c.args.strip.now.low c.args.strip.now.high _ (sym c.does_pass.ensures ∙ w.if-does_pass.true)) w.passing_at.ensures.riser w.passing_at.ensures.key (ap (λ v. v.items) w.gathered-is ∙ w.in_ok-push.ensures.items) c.loop-riser.invariant
  | else-does_pass w ↦ gather_same c.args.strip.now.low c.args.strip.now.high c.args.risers.now c.loop-riser.riser-index _ c.loop-riser.gathered.items c.if-does_pass.gathered.items (omega arith) (sym c.does_pass.ensures ∙ w.if-does_pass.false) (ap (λ v. v.items) w.gathered-is) c.loop-riser.invariant
]
