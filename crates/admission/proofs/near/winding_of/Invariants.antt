use Rattle.std.proofs.Common.{◌≡◌, length, pos, ◌+ℤ◌, ◌-ℤ◌}
use Rattle.grid_geom.specs.Bounds.{IsWithin}
use Rattle.grid_geom.specs.Winding.{wind}
use Rattle.state_law.specs.State.{front_edges}
use Rattle.admission.specs.Around.{ahead, IsThere}
use Rattle.admission.proofs.near.winding_of.Given as goal

abbrev pub invariant-loop-next : goal.invariant-loop-next
invariant-loop-next l = record {
  there : IsThere l.front.lines l.next;
  small : IsWithin (pos (length l.front.lines) -ℤ pos (length (ahead l.front.lines l.next))) l.sum;
  kept : wind l.q (front_edges l.front.points l.front.lines) ≡ l.sum +ℤ wind l.q (front_edges l.front.points (ahead l.front.lines l.next));
}

abbrev pub decreases-loop-next : goal.decreases-loop-next
decreases-loop-next l = length (ahead l.front.lines l.next)
