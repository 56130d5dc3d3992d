use Rattle.std.proofs.Common.{nat_eq}
use Rattle.indexmap.specs.IndexMap.{get}
use Rattle.front_chain.proofs.Numbered.{IsAhead, steps_left}
use Rattle.front_chain.proofs.order.Order.first_above.Given as goal

abbrev pub invariant-loop-n : goal.invariant-loop-n
invariant-loop-n l = IsAhead (λ n. get nat_eq l.self-inside.links n) l.after l.n

abbrev pub decreases-loop-n : goal.decreases-loop-n
decreases-loop-n l = steps_left l.self-inside.count l.n
