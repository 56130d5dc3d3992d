use Rattle.std.proofs.Common.{All, take, ◌++◌}
use Rattle.grid_geom.specs.declared.Bounds.{Bounds}
use Rattle.state_law.specs.State.{point_at}
use Rattle.mesh_run.specs.Remembered.{IsInArea, IsWider}
use Rattle.mesh_run.proofs.HeldAreas.{Holds}
use Rattle.mesh_run.proofs.touched.with_element.Given as goal

abbrev pub invariant-loop-n : goal.invariant-loop-n
invariant-loop-n l = record {
  wider : IsWider l.area l.wide;
  holds : All (λ n. IsInArea l.wide (point_at (l.front.points ++ l.made) n)) (take l.n-index l.element);
  least : (other : Bounds) → IsWider l.area other → Holds other (l.front.points ++ l.made) (take l.n-index l.element) → IsWider l.wide other;
}
