use Rattle.std.proofs.Common.{◌+◌, ◌-◌, sym, ◌∙◌, arith}
use Rattle.std.proofs.lemmas.Result.{err_from_is_err_and}
use Rattle.rule_reader.specs.Sections.{empty_parts, sections_at}
use Rattle.rule_reader.proofs.Loops.{sections_go_on, sections_end, sections_all, sections_fail}
use Rattle.rule_reader.proofs.sections.sections.Goals as goal

pub returns-then-is_at : goal.returns-then-is_at
returns-then-is_at c = sections_end (9 - c.loop.counter) (9 - (c.loop.counter + 1)) c.loop.parts c.loop.reader (sections_at 9 empty_parts c.args.reader.now) (omega (arith, c.loop-test.true)) (sym c.is_at.ensures ∙ c.if-is_at.true) c.loop.invariant

pub returns-in_err-parts : goal.returns-in_err-parts
returns-in_err-parts c =
    let p = err_from_is_err_and c.from_residual.result c.from_residual.ensures.1 in
    rw (p.1, p.2) (sections_fail c.in_err-parts.field-0.0 (9 - c.loop.counter) (9 - (c.loop.counter + 1)) c.loop.parts c.loop.reader (sections_at 9 empty_parts c.args.reader.now) (omega (arith, c.loop-test.true)) (sym c.is_at.ensures ∙ c.if-is_at.false) c.in_err-parts.ensures c.loop.invariant)

pub loop-preserved : goal.loop-preserved
loop-preserved c = sections_go_on (9 - c.loop.counter) (9 - (c.loop.counter + 1)) c.loop.parts c.in_ok-parts.parts c.loop.reader c.section.new.reader (sections_at 9 empty_parts c.args.reader.now) (omega (arith, c.loop-test.true)) (sym c.is_at.ensures ∙ c.if-is_at.false) c.in_ok-parts.ensures c.loop.invariant

pub returns : goal.returns
returns c = sections_all (9 - c.loop.counter) c.loop.parts c.loop.reader (sections_at 9 empty_parts c.args.reader.now) (omega (arith, c.loop-test.false)) c.loop.invariant
