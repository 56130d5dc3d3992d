use Rattle.std.proofs.Common.{arith}
use Rattle.mesh_check.proofs.Kept.{row_more, all_rows}
use Rattle.mesh_check.proofs.tight.tree_of_rows.Goals as goal

pub loop-row-preserved : goal.loop-row-preserved
loop-row-preserved c = row_more c.args.points.now c.args.rows.now c.in_ok-insert.field-0 c.loop-row.row-index _ c.box_of.result c.place-a.result c.place-b.result c.loop-row.tree.entries c.insert.new.self.entries c.loop-row-test.true c.requires.on_grid
    (record { joins = c.requires.joins c.loop-row.row-index _ c.loop-row-test.true; start = c.place-a.ensures; finish = c.place-b.ensures; box = c.box_of.ensures }) c.in_ok-insert.ensures.inserted c.loop-row.invariant

pub returns-clause-all : goal.returns-clause-all
returns-clause-all c = all_rows c.args.points.now c.args.rows.now c.loop-row.row-index c.loop-row.tree.entries (omega arith) c.loop-row.invariant
