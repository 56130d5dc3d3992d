use Rattle.std.proofs.Common.{◌≡◌, ◌+◌, ◌-◌, Bool, true, false, [], ◌∷◌, ◌++◌, length, Ok, ap, ◌∙◌, length-append, arith}
use Rattle.std.proofs.lemmas.Result.{err_from_is_err_and}
use Rattle.run_log.specs.Numbers.{others_need}
use Rattle.run_log.specs.Grammar.{domains}
use Rattle.run_log.specs.Reading.{word_at, read}
use Rattle.run_log.proofs.Rising.{one_above}
use Rattle.run_log.proofs.Steps.{domains_go_on, domains_end, domains_fail_word, domains_fail_run}
use Rattle.run_log.proofs.runs.domains.Goals as goal

pub returns-in_err-others-clause-read : goal.returns-in_err-others-clause-read
returns-in_err-others-clause-read c =
    let runs = c.loop-runs.runs.items in
    let p = err_from_is_err_and c.from_residual.result c.from_residual.ensures.1 in
    rw (p.1, p.2) (domains_fail_word c.in_err-others.field-0.0 (65 - length runs) (65 - (length runs + 1)) c.loop-runs.before c.loop-runs.reader runs (read (domains 65 0) c.args.reader.now) (omega (arith, c.loop-runs.invariant.0, c.loop-runs.invariant.1)) c.in_err-others.ensures c.loop-runs.invariant.2)

pub returns-in_err-run-clause-read : goal.returns-in_err-run-clause-read
returns-in_err-run-clause-read c =
    let runs = c.loop-runs.runs.items in
    let p = err_from_is_err_and c.from_residual-in_err-run.result c.from_residual-in_err-run.ensures.1 in
    let word : word_at others_need c.loop-runs.reader ≡ Ok (true, c.others.new.self) = c.in_ok-others.ensures ∙ ap (λ (b : Bool). Ok (b, c.others.new.self)) c.if-branch.true in
    rw (p.1, p.2) (domains_fail_run c.in_err-run.field-0.0 (65 - length runs) (65 - (length runs + 1)) c.loop-runs.before c.loop-runs.reader c.others.new.self runs (read (domains 65 0) c.args.reader.now) (omega (arith, c.loop-runs.invariant.0, c.loop-runs.invariant.1)) word c.in_err-run.ensures.read c.loop-runs.invariant.2)

pub loop-runs-preserved : goal.loop-runs-preserved
loop-runs-preserved c =
    let runs = c.loop-runs.runs.items in
    let x = c.in_ok-run.run' in
    let word : word_at others_need c.loop-runs.reader ≡ Ok (true, c.others.new.self) = c.in_ok-others.ensures ∙ ap (λ (b : Bool). Ok (b, c.others.new.self)) c.if-branch.true in
    let e : c.push.new.self.items ≡ runs ++ x ∷ [] = c.in_ok-push.ensures.items in
    let n : length c.push.new.self.items ≡ length runs + 1 = omega (arith, ap length e, length-append runs (x ∷ [])) in
    let step = domains_go_on (65 - length runs) (65 - (length runs + 1)) c.loop-runs.before c.loop-runs.reader c.others.new.self c.domain_run.new.reader runs x (read (domains 65 0) c.args.reader.now) (omega (arith, c.loop-runs.invariant.0, c.loop-runs.invariant.1)) word c.in_ok-run.ensures.read c.loop-runs.invariant.2 in
    let rising = one_above runs c.loop-runs.before x c.loop-runs.invariant.3 c.loop-runs.invariant.4 c.in_ok-run.ensures.rises.0 in (
      omega (arith, n, c.loop-runs.invariant.0, c.in_ok-run.ensures.rises.0),
      c.in_ok-run.ensures.rises.1,
      rw (n, e) step,
      rw e rising.0,
      rw e rising.1,
    )

pub returns-clause-read : goal.returns-clause-read
returns-clause-read c =
    let runs = c.loop-runs.runs.items in
    let word : word_at others_need c.loop-runs.reader ≡ Ok (false, c.others.new.self) = c.in_ok-others.ensures ∙ ap (λ (b : Bool). Ok (b, c.others.new.self)) c.if-branch.false in
    rw c.from_vec.ensures (domains_end (65 - length runs) (65 - (length runs + 1)) c.loop-runs.before c.loop-runs.reader c.others.new.self runs (read (domains 65 0) c.args.reader.now) (omega (arith, c.loop-runs.invariant.0, c.loop-runs.invariant.1)) word c.loop-runs.invariant.2)
