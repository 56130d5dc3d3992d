use Rattle.std.proofs.Common.{ℕ, ◌+◌, ◌<◌, sym, subst}
use Rattle.digital_tree.specs.Entries.{TreeState}
use Rattle.mesh_check.specs.Near.{AreKept}
use Rattle.mesh_check.proofs.Kept.{keep_more, pass_more}
use Rattle.mesh_check.proofs.near.tree_of.Goals.{then-not-passed-i+in_ok-insert, else-not-passed-i}
use Rattle.mesh_check.proofs.near.tree_of.Goals as goal

pub loop-i-preserved : goal.loop-i-preserved
loop-i-preserved c = elim c.if-not-passed-i.branch [
  | then-not-passed-i+in_ok-insert w ↦ subst (λ (t : TreeState ℕ). AreKept c.args.points.now c.args.passed.now (c.loop-i.i + 1) t.entries) (sym w.tree-is)
      (keep_more c.args.points.now c.args.passed.now w.in_ok-insert.field-0 c.loop-i.i _ w.box_at.result c.loop-i.tree.entries w.insert.new.self.entries c.loop-i-test.true c.requires.on_grid w.box_at.ensures w.in_ok-insert.ensures.inserted c.loop-i.invariant)
  | else-not-passed-i w ↦ subst (λ (t : TreeState ℕ). AreKept c.args.points.now c.args.passed.now (c.loop-i.i + 1) t.entries) (sym w.tree-is)
      (pass_more c.args.points.now c.args.passed.now c.loop-i.i _ c.loop-i.tree.entries (subst (λ (n : ℕ). c.loop-i.i < n) (sym c.requires.long) c.loop-i-test.true) w.if-not-passed-i.false c.loop-i.invariant)
]
