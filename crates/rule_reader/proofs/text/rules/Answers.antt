use Rattle.std.proofs.Common.{◌≡◌, ℕ, ◌+◌, ◌-◌, [], ◌∷◌, ◌++◌, length, Ok, Err, subst, sym, ap, ◌∙◌, length-append, arith}
use Rattle.std.proofs.lemmas.Result.{err_from_is_err_and}
use Rattle.rule_reader.specs.declared.fault.Fault.TheVariants.{TooMany}
use Rattle.rule_reader.specs.Words.{State, begun}
use Rattle.rule_reader.specs.Reading.{Fails}
use Rattle.rule_reader.specs.Sections.{rule_at, rules_at}
use Rattle.rule_reader.proofs.Loops.{with_front, with_front_nil, rules_go_on, rules_full, rules_end, rules_fail}
use Rattle.rule_reader.proofs.text.rules.Goals as goal

pub loop-alloc-init : goal.loop-alloc-init
loop-alloc-init c = (omega (arith, c.new-rules.ensures.len), rw c.new-rules.ensures.items (with_front_nil (rules_at 0 256 c.args.reader.now)))

pub returns-then-len-eq-RULES : goal.returns-then-len-eq-RULES
returns-then-len-eq-RULES c =
    let items = c.loop-alloc.rules.items in
    let k : c.len.result ≡ length items = omega (arith, c.len.ensures) in
    rules_full (length items) (256 - length items) c.loop-alloc.reader items (rules_at 0 256 c.args.reader.now) (sym c.is_at.ensures ∙ c.loop-alloc-test.true) (omega (arith, c.len-in-loop-alloc.ensures, c.if-len-eq-RULES.true)) c.loop-alloc.invariant.1 ∙ ap (λ (n : ℕ). Err (TooMany (n + 1) 1)) (sym k)

pub returns-in_err-next : goal.returns-in_err-next
returns-in_err-next c =
    let items = c.loop-alloc.rules.items in
    let st = c.loop-alloc.reader in
    let p = err_from_is_err_and c.from_residual.result c.from_residual.ensures.1 in
    let k : c.len.result ≡ length items = omega (arith, c.len.ensures) in
    let b : c.begin.new.self ≡ begun (length items + 1) st = c.begin.ensures ∙ ap (λ (n : ℕ). begun (n + 1) st) k in
    let fails = subst (λ (s : State). Fails c.in_err-next.field-0.0 (rule_at s)) b c.in_err-next.ensures in
    rw (p.1, p.2) (rules_fail c.in_err-next.field-0.0 (length items) (256 - length items) (256 - (length items + 1)) st items (rules_at 0 256 c.args.reader.now) (sym c.is_at.ensures ∙ c.loop-alloc-test.true) (omega (arith, c.len-in-loop-alloc.ensures, c.if-len-eq-RULES.false, c.loop-alloc.invariant.0)) fails c.loop-alloc.invariant.1)

pub loop-alloc-preserved : goal.loop-alloc-preserved
loop-alloc-preserved c =
    let items = c.loop-alloc.rules.items in
    let st = c.loop-alloc.reader in
    let r = c.in_ok-next.next in
    let total = rules_at 0 256 c.args.reader.now in
    let k : c.len.result ≡ length items = omega (arith, c.len.ensures) in
    let b : c.begin.new.self ≡ begun (length items + 1) st = c.begin.ensures ∙ ap (λ (n : ℕ). begun (n + 1) st) k in
    let read : rule_at (begun (length items + 1) st) ≡ Ok (r, c.rule.new.reader) = subst (λ (s : State). rule_at s ≡ Ok (r, c.rule.new.reader)) b c.in_ok-next.ensures in
    let e : c.push.new.self.items ≡ items ++ r ∷ [] = c.in_ok-push.ensures.items in
    let n : length c.push.new.self.items ≡ length items + 1 = omega (arith, ap length e, length-append items (r ∷ [])) in
    let step : with_front (items ++ r ∷ []) (rules_at (length items + 1) (256 - (length items + 1)) c.rule.new.reader) ≡ total =
    rules_go_on (length items) (256 - length items) (256 - (length items + 1)) st c.rule.new.reader items r total (sym c.is_at.ensures ∙ c.loop-alloc-test.true) (omega (arith, c.len-in-loop-alloc.ensures, c.if-len-eq-RULES.false, c.loop-alloc.invariant.0)) read c.loop-alloc.invariant.1 in
    (omega (arith, n, c.len-in-loop-alloc.ensures, c.if-len-eq-RULES.false, c.loop-alloc.invariant.0), rw (n, e) step)

pub returns : goal.returns
returns c =
    let items = c.loop-alloc.rules.items in
    rules_end (length items) (256 - length items) c.loop-alloc.reader items (rules_at 0 256 c.args.reader.now) (sym c.is_at.ensures ∙ c.loop-alloc-test.false) c.loop-alloc.invariant.1
