use Rattle.std.proofs.Common.{◌+◌, sym, subst, take, arith}
use Rattle.admission.specs.Triangles.{corners_of_triangle, HasSome, AreLeast}
use Rattle.admission.proofs.Least.{least_step}
use Rattle.std.proofs.lemmas.List.{take_all}
use Rattle.admission.proofs.lines.Hindrances.of_lines.Goals as goal

pub loop-line-preserved : goal.loop-line-preserved
loop-line-preserved c = subst (AreLeast (corners_of_triangle c.args.t.now) (λ R. HasSome R (take (c.loop-line.line-index + 1) c.args.lines.now))) (sym c.or-least.ensures)
    (least_step (corners_of_triangle c.args.t.now) c.args.lines.now c.loop-line.line-index _ c.loop-line.least c.of_line.result c.loop-line-test.true c.loop-line.invariant c.of_line.ensures)

pub returns : goal.returns
returns c = subst (λ lines. AreLeast (corners_of_triangle c.args.t.now) (λ R. HasSome R lines) c.loop-line.least) (take_all c.loop-line.line-index c.args.lines.now (omega (arith, c.loop-line-test.false))) c.loop-line.invariant
