use Rattle.std.proofs.Common.{◌≤◌, ◌<◌, ◌⊎◌, inl, inr, sym, arith}
use Rattle.vol_format.proofs.Divided.{raised_too_far}
use Rattle.vol_format.proofs.coordinate.raised.Goals as goal
use Rattle.vol_format.proofs.coordinate.raised.Goals.{then-power-gt11-via-then-power-gt11, then-power-gt11-via-else-power-gt11+then-size-ge1000000000000}

pub returns-then-power-gt11 : goal.returns-then-power-gt11
returns-then-power-gt11 c =
    let far : (11 < c.args.power) ⊎ (1000000000000 ≤ c.args.size) = elim c.then-power-gt11.branch [ then-power-gt11-via-then-power-gt11 w ↦ inl (omega (arith, w.if-power-gt11.true)) | then-power-gt11-via-else-power-gt11+then-size-ge1000000000000 w ↦ inr (omega (arith, w.if-size-ge1000000000000.true)) ] in
    record { value = sym (raised_too_far c.args.size c.args.power c.args.greatest c.if-size-eq0.false c.requires far); small = tt }
