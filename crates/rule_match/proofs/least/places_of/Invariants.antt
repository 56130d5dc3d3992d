use Rattle.std.proofs.Common.{◌≡◌, take}
use Rattle.state_law.specs.State.{corners_of}
use Rattle.rule_match.proofs.least.places_of.Given as goal

abbrev pub invariant-loop-number : goal.invariant-loop-number
invariant-loop-number l = l.places ≡ corners_of l.front.points (take l.number-index l.numbers)
