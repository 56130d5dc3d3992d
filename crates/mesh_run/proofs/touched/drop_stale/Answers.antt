use Rattle.std.proofs.Common.{arith}
use Rattle.digital_tree.specs.declared.Entry.{Entry}
use Rattle.front_chain.specs.Front.{state_of}
use Rattle.mesh_run.specs.declared.refusals.Region.{Region}
use Rattle.mesh_run.specs.Kept.{DoNotesStand}
use Rattle.mesh_run.proofs.HeldAreas.{all_taken}
use Rattle.mesh_run.proofs.Stale.{fewer_twice, one_more_hit}
use Rattle.mesh_run.proofs.touched.drop_stale.Goals as goal

pub loop-hit-preserved : goal.loop-hit-preserved
loop-hit-preserved c = record {
  fewer = fewer_twice c.args.notes.now c.loop-hit.notes c.drop_stale_of.new.notes c.loop-hit.invariant.fewer c.drop_stale_of.ensures.fewer;
  stand = one_more_hit (state_of c.args.front.now) c.args.hits.now c.loop-hit.notes c.drop_stale_of.new.notes c.loop-hit.hit-index _ (omega (arith, c.loop-hit-test.true)) c.drop_stale_of.ensures.fewer c.loop-hit.invariant.stand c.drop_stale_of.ensures.stand;
}

pub returns-clause-stand : goal.returns-clause-stand
returns-clause-stand c =
    all_taken (λ (e : Entry Region). DoNotesStand (state_of c.args.front.now) c.loop-hit.notes e.value) c.args.hits.now c.loop-hit.hit-index (omega (arith, c.loop-hit-test.false)) (omega (arith, c.loop-hit.auto.hit-index-end)) c.loop-hit.invariant.stand
