use Rattle.std.proofs.Common.{◌≡◌, take, map}
use Rattle.std.specs.Prelude.{◌*ℤ◌, pos}
use Rattle.grid_geom.specs.Bounds.{IsWithin}
use Rattle.grid_geom.specs.Area.{shoelace}
use Rattle.state_law.specs.State.{pair_edge}
use Rattle.front_chain.specs.declared.opening.TheConstants.{SWEEP}
use Rattle.front_chain.proofs.opening.swept_area.Given as goal

abbrev pub invariant-loop-place : goal.invariant-loop-place
invariant-loop-place l = (l.area ≡ shoelace (map (pair_edge l.points) (take l.place l.lines))) × IsWithin (SWEEP *ℤ pos l.place) l.area
