use Rattle.std.proofs.Common.{◌≡◌, take, All}
use Rattle.grid_geom.specs.Bounds.{IsOnGrid}
use Rattle.state_law.specs.State.{corners_of}
use Rattle.mesh_check.proofs.elements.polygon.Given as goal

abbrev pub invariant-loop-corner : goal.invariant-loop-corner
invariant-loop-corner l = (l.polygon.items ≡ corners_of l.points (take l.corner-index l.corners)) × All IsOnGrid l.polygon.items
