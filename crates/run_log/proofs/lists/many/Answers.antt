use Rattle.std.proofs.Common.{◌≡◌, ◌+◌, ◌-◌, [], ◌∷◌, ◌++◌, length, ap, length-append, arith}
use Rattle.std.proofs.lemmas.Result.{err_from_is_err_and}
use Rattle.run_log.specs.Form.{many}
use Rattle.run_log.specs.Reading.{read}
use Rattle.run_log.proofs.Loops.{many_go_on, many_end, many_fail}
use Rattle.run_log.proofs.lists.many.Goals as goal

pub returns-in_err-read-clause-read : goal.returns-in_err-read-clause-read
returns-in_err-read-clause-read g c =
    let items = c.loop-alloc.items.items in
    let form = g.R.Row.form c.args.points in
    let p = err_from_is_err_and c.from_residual-in_err-read.result c.from_residual-in_err-read.ensures.1 in
    rw (p.1, p.2) (many_fail c.in_err-read.field-0.0 form (c.args.count - length items) (c.args.count - (length items + 1)) c.loop-alloc.reader items (read (many c.args.count form) c.args.reader.now) (omega (arith, c.len.ensures, c.loop-alloc-test.true)) c.in_err-read.ensures c.loop-alloc.invariant.1)

pub loop-alloc-preserved : goal.loop-alloc-preserved
loop-alloc-preserved g c =
    let items = c.loop-alloc.items.items in
    let form = g.R.Row.form c.args.points in
    let x = c.in_ok-read.field-0 in
    let e : c.push.new.self.items ≡ items ++ x ∷ [] = c.in_ok-push.ensures.items in
    let n : length c.push.new.self.items ≡ length items + 1 = omega (arith, ap length e, length-append items (x ∷ [])) in
    let step = many_go_on form (c.args.count - length items) (c.args.count - (length items + 1)) c.loop-alloc.reader c.read.new.reader items x (read (many c.args.count form) c.args.reader.now) (omega (arith, c.len.ensures, c.loop-alloc-test.true)) c.in_ok-read.ensures c.loop-alloc.invariant.1 in
    (omega (arith, n, c.len.ensures, c.loop-alloc-test.true), rw (n, e) step)

pub returns-clause-read : goal.returns-clause-read
returns-clause-read g c =
    let items = c.loop-alloc.items.items in
    let form = g.R.Row.form c.args.points in
    rw c.from_vec.ensures (many_end form (c.args.count - length items) c.loop-alloc.reader items (read (many c.args.count form) c.args.reader.now) (omega (arith, c.len.ensures, c.loop-alloc-test.false)) c.loop-alloc.invariant.1)
