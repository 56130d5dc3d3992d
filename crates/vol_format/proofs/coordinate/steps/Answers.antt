use Rattle.std.proofs.Common.{ap, ◌∙◌}
use Rattle.std.specs.Prelude.{◌≤ℤ◌, ◌<ℤ◌, pos, unsigned_abs}
use Rattle.std.proofs.lemmas.Int.{ints}
use Rattle.std.proofs.Common.{arith}
use Rattle.vol_format.proofs.Divided.{steps_up, steps_down, kept}
use Rattle.vol_format.proofs.coordinate.steps.Goals as goal

pub returns-then-power-ge0-clause-value : goal.returns-then-power-ge0-clause-value
returns-then-power-ge0-clause-value c =
    let z = c.power_of-power.result in
    let k = kept z c.power_of-power.ensures.small in
    let le : pos 0 ≤ℤ z = omega (arith, ints, k, c.if-power-ge0.true) in
    c.raised.ensures.value ∙ steps_up c.args.d.now c.args.places c.args.greatest c.size_of.result c.unsigned_abs.result z c.power_of-power.ensures.value le (c.unsigned_abs.ensures.value ∙ ap unsigned_abs k) c.size_of.ensures

pub returns-else-power-ge0-clause-value : goal.returns-else-power-ge0-clause-value
returns-else-power-ge0-clause-value c =
    let z = c.power_of-power.result in
    let k = kept z c.power_of-power.ensures.small in
    let lt : z <ℤ pos 0 = omega (arith, ints, k, c.if-power-ge0.false) in
    c.lowered.ensures.value ∙ steps_down c.args.d.now c.args.places c.args.greatest c.size_of-else-power-ge0.result c.unsigned_abs-else-power-ge0.result z c.power_of-power.ensures.value lt (c.unsigned_abs-else-power-ge0.ensures.value ∙ ap unsigned_abs k) c.size_of-else-power-ge0.ensures
