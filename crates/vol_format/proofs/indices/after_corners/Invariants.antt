use Rattle.std.proofs.Common.{◌≡◌, ◌+◌, ◌∷◌, [], length, drop}
use Rattle.std.specs.List.{flat_map}
use Rattle.vol_format.specs.Text.{Number, PointNumber}
use Rattle.vol_format.specs.Reading.{walked}
use Rattle.vol_format.proofs.indices.after_corners.Given as goal

abbrev pub invariant-loop-corner : goal.invariant-loop-corner
invariant-loop-corner l =
    let left = flat_map (λ p. Number PointNumber p ∷ []) (drop l.corner-index l.corners) in
    (walked l.points l.at left ≡ walked l.points l.from (flat_map (λ p. Number PointNumber p ∷ []) l.corners)) × (l.at + length left ≡ l.from + length (flat_map (λ p. Number PointNumber p ∷ []) l.corners))
