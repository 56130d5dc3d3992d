use Rattle.std.proofs.Common.{◌≡◌, map, take}
use Rattle.std.specs.List.{All}
use Rattle.grid_geom.specs.Bounds.{IsOnGrid}
use Rattle.state_law.specs.State.{point_at}
use Rattle.rule_match.proofs.making.corners_at.Given as goal

abbrev pub invariant-loop-n : goal.invariant-loop-n
invariant-loop-n l = (l.corners ≡ map (point_at l.places) (take l.n-index l.element)) × All IsOnGrid l.corners
