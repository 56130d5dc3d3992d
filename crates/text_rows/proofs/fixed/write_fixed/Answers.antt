-- ten to the number of places fits, and is no 0
use Rattle.std.proofs.Common.{◌≤◌, ◌^◌, arith}
use Rattle.std.proofs.Math.Nat.{pow-le-pow_right, one-le-pow}
use Rattle.text_rows.proofs.fixed.write_fixed.Goals as goal

pub pow-requires : goal.pow-requires
pow-requires c =
    let most : 10 ^ c.args.places ≤ 10 ^ 38 = pow-le-pow_right (omega arith) c.requires in
    omega arith

pub nonzero_div-magnitude : goal.nonzero_div-magnitude
nonzero_div-magnitude c =
    let least : 1 ≤ 10 ^ c.args.places = one-le-pow c.args.places 10 (omega arith) in
    omega (arith, c.pow.ensures)
