use Rattle.std.proofs.Common.{◌≡◌, ◌+◌, ◌-◌, length, ◌++◌, ◌∷◌, [], ap, arith, length-append}
use Rattle.std.proofs.lemmas.Result.{err_from_is_err_and}
use Rattle.vol_format.specs.Reading.{run, rows_behind}
use Rattle.vol_format.proofs.Forms.{rows_go_on, rows_fail}
use Rattle.vol_format.proofs.rows.rows.Goals as goal

pub returns-in_err-row : goal.returns-in_err-row
returns-in_err-row g c =
    let items = c.loop-alloc.rows.items in
    let p = err_from_is_err_and c.from_residual.result c.from_residual.ensures.1 in
    rw (p.1, p.2) (rows_fail c.in_err-row.field-0.0 g.T.Row.form items (c.args.count - length items) (c.args.count - (length items + 1)) c.loop-alloc.reader (run (rows_behind g.T.Row.form [] c.args.count) c.args.reader.now) (omega (arith, c.len.ensures, c.loop-alloc-test.true)) c.in_err-row.ensures c.loop-alloc.invariant.1)

pub loop-alloc-preserved : goal.loop-alloc-preserved
loop-alloc-preserved g c =
    let items = c.loop-alloc.rows.items in
    let x = c.in_ok-row.row in
    let e : c.push.new.self.items ≡ items ++ x ∷ [] = c.in_ok-push.ensures.items in
    let n : length c.push.new.self.items ≡ length items + 1 = omega (arith, ap length e, length-append items (x ∷ [])) in
    let step = rows_go_on g.T.Row.form items x (c.args.count - length items) (c.args.count - (length items + 1)) c.loop-alloc.reader c.read.new.reader (run (rows_behind g.T.Row.form [] c.args.count) c.args.reader.now) (omega (arith, c.len.ensures, c.loop-alloc-test.true)) c.in_ok-row.ensures c.loop-alloc.invariant.1 in
    (omega (arith, n, c.len.ensures, c.loop-alloc-test.true), rw (n, e) step)
