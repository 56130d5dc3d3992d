use Rattle.std.proofs.Common.{◌≡◌, ℕ, ◌+◌, ◌-◌, [], ◌∷◌, ◌++◌, length, Ok, subst, sym, ap, ◌∙◌, length-append, arith}
use Rattle.std.proofs.lemmas.Result.{err_from_is_err_and}
use Rattle.rule_reader.specs.Reading.{Fails, entries_at}
use Rattle.rule_reader.proofs.Loops.{with_front, entries_go_on, entries_full, entries_end, entries_fail}
use Rattle.rule_reader.proofs.entries.entries.Goals as goal

pub returns-then-len-most : goal.returns-then-len-most
returns-then-len-most g c =
    let items = c.loop-alloc.entries.items in
    let total = entries_at g.E.Entry.at c.args.what 0 c.args.most c.args.reader.now in
    rw c.rule-rule.ensures (entries_full g.E.Entry.at c.args.what (length items) (c.args.most - length items) c.loop-alloc.reader items total (sym c.opens.ensures ∙ c.loop-alloc-test.true) (omega (arith, c.len.ensures, c.if-len-most.true)) c.loop-alloc.invariant.1)

pub returns-in_err-entry : goal.returns-in_err-entry
returns-in_err-entry g c =
    let items = c.loop-alloc.entries.items in
    let total = entries_at g.E.Entry.at c.args.what 0 c.args.most c.args.reader.now in
    let p = err_from_is_err_and c.from_residual.result c.from_residual.ensures.1 in
    let k : c.len-in-loop-alloc.result ≡ length items = omega (arith, c.len-in-loop-alloc.ensures) in
    let fails = subst (λ (n : ℕ). Fails c.in_err-entry.field-0.0 (g.E.Entry.at n c.loop-alloc.reader)) k c.in_err-entry.ensures in
    rw (p.1, p.2) (entries_fail c.in_err-entry.field-0.0 g.E.Entry.at c.args.what (length items) (c.args.most - length items) (c.args.most - (length items + 1)) c.loop-alloc.reader items total (sym c.opens.ensures ∙ c.loop-alloc-test.true) (omega (arith, c.len.ensures, c.if-len-most.false, c.loop-alloc.invariant.0)) fails c.loop-alloc.invariant.1)

pub loop-alloc-preserved : goal.loop-alloc-preserved
loop-alloc-preserved g c =
    let items = c.loop-alloc.entries.items in
    let x = c.in_ok-entry.entry in
    let total = entries_at g.E.Entry.at c.args.what 0 c.args.most c.args.reader.now in
    let e : c.push.new.self.items ≡ items ++ x ∷ [] = c.in_ok-push.ensures.items in
    let n : length c.push.new.self.items ≡ length items + 1 = omega (arith, ap length e, length-append items (x ∷ [])) in
    let k : c.len-in-loop-alloc.result ≡ length items = omega (arith, c.len-in-loop-alloc.ensures) in
    let read : g.E.Entry.at (length items) c.loop-alloc.reader ≡ Ok (x, c.read.new.reader) = subst (λ (n : ℕ). g.E.Entry.at n c.loop-alloc.reader ≡ Ok (x, c.read.new.reader)) k c.in_ok-entry.ensures in
    let step : with_front (items ++ x ∷ []) (entries_at g.E.Entry.at c.args.what (length items + 1) (c.args.most - (length items + 1)) c.read.new.reader) ≡ total =
    entries_go_on g.E.Entry.at c.args.what (length items) (c.args.most - length items) (c.args.most - (length items + 1)) c.loop-alloc.reader c.read.new.reader items x total (sym c.opens.ensures ∙ c.loop-alloc-test.true) (omega (arith, c.len.ensures, c.if-len-most.false, c.loop-alloc.invariant.0)) read c.loop-alloc.invariant.1 in
    (omega (arith, n, c.len.ensures, c.if-len-most.false, c.loop-alloc.invariant.0), rw (n, e) step)

pub returns : goal.returns
returns g c =
    let items = c.loop-alloc.entries.items in
    entries_end g.E.Entry.at c.args.what (length items) (c.args.most - length items) c.loop-alloc.reader items (entries_at g.E.Entry.at c.args.what 0 c.args.most c.args.reader.now) (sym c.opens.ensures ∙ c.loop-alloc-test.false) c.loop-alloc.invariant.1
