use Rattle.std.proofs.Common.{◌≡◌, pos, ◌+ℤ◌, ◌*ℤ◌, drop}
use Rattle.grid_geom.specs.Bounds.{IsWithin}
use Rattle.rule_maps.specs.declared.sums.TheConstants.{REST}
use Rattle.rule_maps.specs.Sums.{resting}
use Rattle.rule_maps.proofs.sums.resting.Given as goal

abbrev pub invariant-loop-term : goal.invariant-loop-term
invariant-loop-term l = record {
  ahead : l.sum +ℤ resting l.points (drop l.term-index l.row) ≡ resting l.points l.row;
  small : IsWithin (pos l.term-index *ℤ REST) l.sum;
}
