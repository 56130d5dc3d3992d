use Rattle.std.proofs.Common.{◌≡◌, pos, ◌+ℤ◌, ◌*ℤ◌, drop}
use Rattle.grid_geom.specs.Bounds.{IsWithin}
use Rattle.rule_maps.specs.declared.sums.TheConstants.{WEIGHTED}
use Rattle.rule_maps.specs.Sums.{moving}
use Rattle.rule_maps.proofs.sums.moving.Given as goal

abbrev pub invariant-loop-term : goal.invariant-loop-term
invariant-loop-term l = record {
  ahead : l.sum +ℤ moving l.f l.mapped (drop l.term-index l.row) ≡ moving l.f l.mapped l.row;
  small : IsWithin (pos l.term-index *ℤ WEIGHTED) l.sum;
}
