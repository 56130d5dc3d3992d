use Rattle.mesh_check.specs.Parts.{row_edge}
use Rattle.mesh_check.proofs.Moves.{to_last, inside}
use Rattle.mesh_check.proofs.rows.does_move.Goals as goal

pub returns-then-eq-2 : goal.returns-then-eq-2
returns-then-eq-2 c = to_last c.args.at c.args.last c.place-start.result c.place-end.result (row_edge c.args.points.now c.args.row.now) c.eq.result c.ne.result c.eq-then-ne.result
    (record { start = c.place-start.ensures; end = c.place-end.ensures; start_test = c.eq.ensures; starts = c.if-eq.true; end_test = c.ne.ensures; moved = c.if-ne.true })
    c.eq-then-ne.ensures c.if-eq-2.true

pub returns-else-eq-2 : goal.returns-else-eq-2
returns-else-eq-2 c = inside c.args.at c.args.last c.place-start.result c.place-end.result (row_edge c.args.points.now c.args.row.now) c.eq.result c.ne.result c.eq-then-ne.result c.on_open.result
    (record { start = c.place-start.ensures; end = c.place-end.ensures; start_test = c.eq.ensures; starts = c.if-eq.true; end_test = c.ne.ensures; moved = c.if-ne.true })
    c.eq-then-ne.ensures c.if-eq-2.false c.on_open.ensures
