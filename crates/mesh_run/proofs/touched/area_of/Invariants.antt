use Rattle.std.proofs.Common.{All, take, ◌++◌}
use Rattle.grid_geom.specs.declared.Bounds.{Bounds}
use Rattle.grid_geom.specs.Boxes.{DoBoundsMeet}
use Rattle.rule_match.specs.Near.{whole_grid}
use Rattle.state_law.specs.State.{point_at}
use Rattle.mesh_run.specs.Remembered.{IsInArea, IsWider}
use Rattle.mesh_run.proofs.HeldAreas.{Holds}
use Rattle.mesh_run.proofs.touched.area_of.Given as goal

abbrev pub invariant-loop-element : goal.invariant-loop-element
invariant-loop-element l = record {
  holds : All (λ ns. All (λ n. IsInArea l.area (point_at (l.front.points ++ l.made) n)) ns) (take l.element-index l.elements);
  on_grid : DoBoundsMeet l.area whole_grid;
  least : (other : Bounds) → DoBoundsMeet other whole_grid → All (Holds other (l.front.points ++ l.made)) (take l.element-index l.elements) → IsWider l.area other;
}
