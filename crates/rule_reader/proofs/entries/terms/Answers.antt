use Rattle.std.proofs.Common.{◌≡◌, ◌+◌, ◌-◌, [], ◌∷◌, ◌++◌, length, true, false, Err, refl, sym, ap, ◌∙◌, length-append, arith}
use Rattle.std.proofs.lemmas.Result.{err_from_is_err_and}
use Rattle.rule_reader.specs.declared.fault.Fault.{Fault}
use Rattle.rule_reader.specs.declared.fault.Fault.TheVariants.{Syntax, TooMany}
use Rattle.rule_reader.specs.Words.{State}
use Rattle.rule_reader.specs.Reading.{terms_at, is_at_number, past_terms}
use Rattle.rule_reader.proofs.Loops.{with_front_nil, terms_go_on, terms_end, terms_full, terms_fail, terms_fail_comma}
use Rattle.rule_reader.proofs.entries.terms.Goals as goal

pub loop-reader-init : goal.loop-reader-init
loop-reader-init c = rw c.new-terms.ensures.items (with_front_nil (terms_at 32 c.args.reader.now))

pub returns-in_err-next : goal.returns-in_err-next
returns-in_err-next c =
    let items = c.loop-reader.terms.items in
    let p = err_from_is_err_and c.from_residual.result c.from_residual.ensures.1 in
    rw (p.1, p.2) (terms_fail c.in_err-next.field-0.0 (32 - length items) (32 - (length items + 1)) c.loop-reader.reader items (terms_at 32 c.args.reader.now) (omega (arith, c.len.ensures, c.loop-reader-test.true)) c.in_err-next.ensures c.loop-reader.invariant)

pub returns-then-not-opens : goal.returns-then-not-opens
returns-then-not-opens c =
    let items = c.loop-reader.terms.items in
    rw c.in_ok-push.ensures.items (terms_end (32 - length items) (32 - (length items + 1)) c.loop-reader.reader c.term.new.reader items c.in_ok-next.next (terms_at 32 c.args.reader.now) (omega (arith, c.len.ensures, c.loop-reader-test.true)) c.in_ok-next.ensures (sym c.opens.ensures ∙ c.if-not-opens.true) c.loop-reader.invariant)

pub loop-reader-preserved : goal.loop-reader-preserved
loop-reader-preserved c =
    let items = c.loop-reader.terms.items in
    let t = c.in_ok-next.next in
    let e : c.push.new.self.items ≡ items ++ t ∷ [] = c.in_ok-push.ensures.items in
    let n : 32 - length c.push.new.self.items ≡ 32 - (length items + 1) = omega (arith, ap length e, length-append items (t ∷ [])) in
    rw (n, e) (terms_go_on (32 - length items) (32 - (length items + 1)) c.loop-reader.reader c.term.new.reader c.mark.new.self items t c.in_ok-mark.field-0 (terms_at 32 c.args.reader.now) (omega (arith, c.len.ensures, c.loop-reader-test.true)) c.in_ok-next.ensures (sym c.opens.ensures ∙ c.if-not-opens.false) c.in_ok-mark.ensures c.loop-reader.invariant)

pub returns-in_err-mark : goal.returns-in_err-mark
returns-in_err-mark c =
    let items = c.loop-reader.terms.items in
    let p = err_from_is_err_and c.from_residual-in_err-mark.result c.from_residual-in_err-mark.ensures.1 in
    rw (p.1, p.2) (terms_fail_comma c.in_err-mark.field-0.0 (32 - length items) (32 - (length items + 1)) c.loop-reader.reader c.term.new.reader items c.in_ok-next.next (terms_at 32 c.args.reader.now) (omega (arith, c.len.ensures, c.loop-reader-test.true)) c.in_ok-next.ensures (sym c.opens.ensures ∙ c.if-not-opens.false) c.in_err-mark.ensures c.loop-reader.invariant)

past_number : (st : State) → is_at_number st ≡ true → past_terms st ≡ TooMany st.rule 10
past_number st n = rw n refl

past_other : (st : State) → is_at_number st ≡ false → past_terms st ≡ Syntax (length st.left)
past_other st n = rw n refl

pub returns-then-is_at_number : goal.returns-then-is_at_number
returns-then-is_at_number c =
    let items = c.loop-reader.terms.items in
    let st = c.loop-reader.reader in
    rw c.rule-rule.ensures (terms_full (32 - length items) st items (terms_at 32 c.args.reader.now) (omega (arith, c.len.ensures, c.loop-reader-test.false)) c.loop-reader.invariant ∙ ap (λ (f : Fault). Err f) (past_number st (sym c.is_at_number.ensures ∙ c.if-is_at_number.true)))

pub returns : goal.returns
returns c =
    let items = c.loop-reader.terms.items in
    let st = c.loop-reader.reader in
    rw c.syntax.ensures (terms_full (32 - length items) st items (terms_at 32 c.args.reader.now) (omega (arith, c.len.ensures, c.loop-reader-test.false)) c.loop-reader.invariant ∙ ap (λ (f : Fault). Err f) (past_other st (sym c.is_at_number.ensures ∙ c.if-is_at_number.false)))
