use Rattle.std.proofs.Common.{sym, subst, nat_eq}
use Rattle.std.specs.Map.{lookup}
use Rattle.front_chain.specs.Links.{AreLinked}
use Rattle.front_chain.proofs.order.Order.reserve.Goals as goal

pub invariant_of-self : goal.invariant_of-self
invariant_of-self c = (subst (λ es. AreLinked (λ n. lookup (nat_eq n) es) c.self.inside.count c.self.inside.first c.self.inside.last) (sym c.reserve.ensures.entries) c.self.invariant.0, c.reserve.ensures.unique, c.self.invariant.2)
