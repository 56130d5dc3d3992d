use Rattle.std.proofs.Common.{◌≡◌, ℕ, ◌+◌, ◌-◌, [], ◌∷◌, ◌++◌, length, Ok, ap, subst, ◌∙◌, length-append, arith}
use Rattle.std.proofs.lemmas.Result.{err_from_is_err_and}
use Rattle.std.proofs.lemmas.List.{flat_map_more}
use Rattle.run_log.specs.Grammar.{application, applications}
use Rattle.run_log.specs.Reading.{Fails, read}
use Rattle.run_log.proofs.Steps.{applications_go_on, applications_end, applications_fail}
use Rattle.run_log.proofs.applied.applications.Goals as goal

pub returns-in_err-next-clause-read : goal.returns-in_err-next-clause-read
returns-in_err-next-clause-read c =
    let made = c.loop-alloc.made.items in
    let points = length c.loop-alloc.points.items in
    let p = err_from_is_err_and c.from_residual.result c.from_residual.ensures.1 in
    let k : c.len-in-loop-alloc.result ≡ points = omega (arith, c.len-in-loop-alloc.ensures) in
    let fails = subst (λ (n : ℕ). Fails c.in_err-next.field-0.0 (read (application n) c.loop-alloc.reader)) k c.in_err-next.ensures in
    rw (p.1, p.2) (applications_fail c.in_err-next.field-0.0 (c.args.count - length made) (c.args.count - (length made + 1)) points c.loop-alloc.reader made (read (applications c.args.count (length c.args.points.now.items)) c.args.reader.now) (omega (arith, c.len.ensures, c.loop-alloc-test.true)) fails c.loop-alloc.invariant.1)

pub loop-alloc-preserved : goal.loop-alloc-preserved
loop-alloc-preserved c =
    let made = c.loop-alloc.made.items in
    let points = length c.loop-alloc.points.items in
    let x = c.in_ok-next.next in
    let more = c.args.count - (length made + 1) in
    let total = read (applications c.args.count (length c.args.points.now.items)) c.args.reader.now in
    let k : c.len-in-loop-alloc.result ≡ points = omega (arith, c.len-in-loop-alloc.ensures) in
    let one = subst (λ (n : ℕ). read (application n) c.loop-alloc.reader ≡ Ok (x, c.application.new.reader)) k c.in_ok-next.ensures in
    let e : c.push.new.self.items ≡ made ++ x ∷ [] = c.in_ok-push.ensures.items in
    let n : length c.push.new.self.items ≡ length made + 1 = omega (arith, ap length e, length-append made (x ∷ [])) in
    let longer : c.extend_from_slice.new.self.items ≡ c.loop-alloc.points.items ++ x.made = c.in_ok-extend_from_slice.ensures.items ∙ ap (λ (ps : _). c.loop-alloc.points.items ++ ps) c.as_slice.ensures in
    let so_many : length c.extend_from_slice.new.self.items ≡ points + length x.made = ap length longer ∙ length-append c.loop-alloc.points.items x.made in
    let step = applications_go_on (c.args.count - length made) more points c.loop-alloc.reader c.application.new.reader made x total (omega (arith, c.len.ensures, c.loop-alloc-test.true)) one c.loop-alloc.invariant.1 in (
      omega (arith, n, c.len.ensures, c.loop-alloc-test.true),
      rw (n, e, so_many) step,
      longer ∙ rw (c.loop-alloc.invariant.2, e) (flat_map_more (λ a. a.made) c.args.points.now.items made x),
    )

pub returns-clause-read : goal.returns-clause-read
returns-clause-read c =
    let made = c.loop-alloc.made.items in
    rw c.from_vec.ensures (applications_end (c.args.count - length made) (length c.loop-alloc.points.items) c.loop-alloc.reader made (read (applications c.args.count (length c.args.points.now.items)) c.args.reader.now) (omega (arith, c.len.ensures, c.loop-alloc-test.false)) c.loop-alloc.invariant.1)
