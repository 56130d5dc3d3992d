use Rattle.digital_tree.proofs.Keys.{kept_absent, kept_inserted}
use Rattle.digital_tree.proofs.tree.Tree.insert_reserved.Goals as goal

pub invariant_of-self : goal.invariant_of-self
invariant_of-self g c = kept_inserted _ _ _ _ _ c.self.invariant c.insert.ensures c.insert_reserved.ensures.was_vacant c.insert_reserved.ensures.updates

pub returns-clause-free : goal.returns-clause-free
returns-clause-free g c = rw (← c.self.view_is) (kept_absent _ _ _ c.self.invariant c.insert_reserved.ensures.was_vacant)
