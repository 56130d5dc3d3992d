use Rattle.std.proofs.Common.{◌<◌, length, arith}
use Rattle.geom_check.specs.Accepted.{AreTangled}
use Rattle.geom_check.proofs.LeastPairs.{least_pair, no_pair}
use Rattle.geom_check.proofs.pairs.tangled.Goals as goal

pub returns-in-Some-clause-found : goal.returns-in-Some-clause-found
returns-in-Some-clause-found c = least_pair (AreTangled c.args.edges.now) c.loop-i.i c.in-Some.j c.in-Some.ensures.found c.loop-i.invariant

pub loop-i-preserved : goal.loop-i-preserved
loop-i-preserved c = no_pair (AreTangled c.args.edges.now) c.loop-i.i c.in_default.ensures.none c.loop-i.invariant

pub returns-clause-none : goal.returns-clause-none
returns-clause-none c = λ i j t. c.loop-i.invariant i j (let h : i < j = t.ordered in let k : j < length c.args.edges.now = t.in_list in omega arith) t
