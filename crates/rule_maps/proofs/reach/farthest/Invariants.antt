use Rattle.std.proofs.Common.{◌≡◌, ◌≤◌, max, drop}
use Rattle.rule_maps.specs.declared.reach.TheConstants.{EXTENT}
use Rattle.rule_maps.specs.Reach.{farthest}
use Rattle.rule_maps.proofs.reach.farthest.Given as goal

abbrev pub invariant-loop-place : goal.invariant-loop-place
invariant-loop-place l = record {
  ahead : max l.greatest (farthest l.leeways (drop l.place-index l.places)) ≡ farthest l.leeways l.places;
  small : l.greatest ≤ EXTENT;
}
