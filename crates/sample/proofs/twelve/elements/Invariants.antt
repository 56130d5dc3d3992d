use Rattle.std.proofs.Common.{◌≡◌, map, take}
use Rattle.sample.specs.Plans.{element_of}
use Rattle.sample.proofs.twelve.elements.Given as goal

abbrev pub invariant-loop-triple : goal.invariant-loop-triple
invariant-loop-triple l = l.elements.items ≡ map element_of (take l.triple-index l.triples)
