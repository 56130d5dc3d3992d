use Rattle.std.proofs.Common.{◌+◌, sym, subst, arith}
use Rattle.front_chain.specs.Front.{state_of}
use Rattle.mesh_run.specs.Kept.{PairNotes}
use Rattle.mesh_run.proofs.Stale.{AreDroppedTo, none_dropped, one_more_dropped, one_more_stood}
use Rattle.mesh_run.proofs.touched.drop_stale_of.Goals.{then-is_stale+in-None-1, then-is_stale+in-Some-1, else-is_stale}
use Rattle.mesh_run.proofs.touched.drop_stale_of.Goals as goal

pub loop-n-init : goal.loop-n-init
loop-n-init c = none_dropped (state_of c.args.front.now) c.args.notes.now c.args.region

pub loop-n-preserved : goal.loop-n-preserved
loop-n-preserved c =
    let st = state_of c.args.front.now in let start = c.args.notes.now in let was = c.loop-n.notes in let n = c.loop-n.n in let h = c.loop-n.invariant in
    elim c.if-is_stale.branch [
      | then-is_stale+in-None-1 w ↦ subst (λ (m : PairNotes). AreDroppedTo st start m c.args.region (n + 1)) (sym w.notes-is) (one_more_dropped st start was w.remove-held.new.self c.args.region n w.remove-held.ensures.updates h)
      | then-is_stale+in-Some-1 w ↦ subst (λ (m : PairNotes). AreDroppedTo st start m c.args.region (n + 1)) (sym w.notes-is) (one_more_dropped st start was w.remove-held.new.self c.args.region n w.remove-held.ensures.updates h)
      | else-is_stale w ↦ subst (λ (m : PairNotes). AreDroppedTo st start m c.args.region (n + 1)) (sym w.notes-is) (one_more_stood st start was c.args.region n (λ held has. c.is_stale.ensures w.if-is_stale.false held has) h)
    ]

pub returns-clause-fewer : goal.returns-clause-fewer
returns-clause-fewer c = c.loop-n.invariant.fewer

pub returns-clause-stand : goal.returns-clause-stand
returns-clause-stand c = λ class held from last has. c.loop-n.invariant.stand class held from (omega (arith, last, c.loop-n-test.false)) has
