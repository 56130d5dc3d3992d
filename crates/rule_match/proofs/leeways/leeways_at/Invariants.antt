use Rattle.std.proofs.Common.{take}
use Rattle.rule_match.specs.Leeways.{AreLeewaysAt}
use Rattle.rule_match.proofs.leeways.leeways_at.Given as goal

abbrev pub invariant-loop-point : goal.invariant-loop-point
invariant-loop-point l = AreLeewaysAt l.class (take l.point-index l.points) l.all.items
