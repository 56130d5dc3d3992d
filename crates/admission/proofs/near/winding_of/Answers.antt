use Rattle.std.proofs.Common.{◌≡◌, ◌∙◌, ◌∷◌, ◌<◌, ◌^◌, length, sym, ap, arith, Some}
use mir.Val.{to_z}
use mir.Syntax.{w128}
use Rattle.admission.specs.Around.{ahead, numbers_of}
use Rattle.admission.proofs.Sums.{stepped, more_within, head_ahead, wind_step}
use Rattle.admission.proofs.near.winding_of.Goals as goal

pub loop-next-preserved : goal.loop-next-preserved
loop-next-preserved c =
    let few : length c.args.front.now.lines < 2 ^ 64 = omega (arith, c.lines-count.ensures.count) in
    let first : ahead c.args.front.now.lines (Some c.in-Some.n) ≡ numbers_of c.line_of-line.result ∷ ahead c.args.front.now.lines c.above-next.result
    = c.line_of-line.ensures.first ∙ ap (λ o. numbers_of c.line_of-line.result ∷ ahead c.args.front.now.lines o) (sym c.above-next.ensures.value) in
    rw (stepped (to_z w128 c.loop-next.sum-bits) c.crossing.result (length c.args.front.now.lines) (length (ahead c.args.front.now.lines c.loop-next.next)) few c.loop-next.invariant.small c.crossing.ensures.least c.crossing.ensures.greatest) (record {
      there = c.above-next.ensures.there;
      small = more_within (to_z w128 c.loop-next.sum-bits) c.crossing.result (length c.args.front.now.lines) (ahead c.args.front.now.lines c.loop-next.next) (ahead c.args.front.now.lines c.above-next.result) (numbers_of c.line_of-line.result)
          (head_ahead c.args.front.now.lines c.loop-next.next c.above-next.result c.in-Some.n c.line_of-line.result c.in-Some.is first) c.loop-next.invariant.small c.crossing.ensures.least c.crossing.ensures.greatest;
      kept = wind_step c.args.q.now c.args.front.now.points c.args.front.now.lines c.loop-next.next c.above-next.result c.in-Some.n c.line_of-line.result _ (to_z w128 c.loop-next.sum-bits) c.crossing.result c.in-Some.is
          first c.line_of-line.ensures.drawn c.crossing.ensures.value c.loop-next.invariant.kept;
    })
