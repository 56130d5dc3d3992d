use Rattle.std.proofs.Common.{◌≡◌, drop}
use Rattle.std.specs.Prelude.{pos, ◌+ℤ◌, ◌*ℤ◌}
use Rattle.grid_geom.specs.Bounds.{IsWithin}
use Rattle.grid_geom.specs.Area.{shoelace}
use Rattle.geom_check.specs.Boundary.{boundary}
use Rattle.netmesh_cli.specs.declared.areas.TheConstants.{SWEPT}
use Rattle.netmesh_cli.proofs.areas.double_area.Given as goal

abbrev pub invariant-loop-segment : goal.invariant-loop-segment
invariant-loop-segment l = record {
  ahead : shoelace (boundary l.points l.domain l.segments) ≡ l.sum +ℤ shoelace (boundary l.points l.domain (drop l.segment-index l.segments));
  small : IsWithin (SWEPT *ℤ pos l.segment-index) l.sum;
}
