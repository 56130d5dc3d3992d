use Rattle.std.proofs.Common.{◌≡◌, length}
use Rattle.rule_match.proofs.Covered.{AreRegions}
use Rattle.rule_match.proofs.trying.Trying.regions.Given as goal

abbrev pub invariant-loop-position : goal.invariant-loop-position
invariant-loop-position l = record {
  counted : length l.regions.items ≡ l.position;
  regions : AreRegions l.self 0 l.regions.items l.self.rule.points;
}
