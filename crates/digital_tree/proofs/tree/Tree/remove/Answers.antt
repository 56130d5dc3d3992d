use Rattle.std.proofs.Common.{◌≡◌, sym, ◌∙◌, Some}
use Rattle.slab.specs.Slab.{get}
use Rattle.digital_tree.specs.Entries.{IsRemoved}
use Rattle.digital_tree.proofs.Keys.{kept_found, kept_removed, sure_removed}
use Rattle.digital_tree.proofs.tree.Tree.remove.Given.{Over}
use Rattle.digital_tree.proofs.tree.Tree.remove.Goals as goal
use Rattle.digital_tree.proofs.tree.Tree.remove.Goals.{After-remove-was_here}

was : (g : Over) (c : After-remove-was_here g) → get c.self.inside.kept c.args.k.slot ≡ Some c.in-Some.held
was g c = sym c.try_remove.ensures.value ∙ c.in-Some.is

gone : (g : Over) (c : After-remove-was_here g) → IsRemoved c.args.k c.self.inside.root c.remove-was_here.new.self
gone g c = sure_removed _ _ _ _ _ _ c.self.invariant (was g c) c.remove-was_here.ensures.removed c.remove-was_here.ensures.absent

pub invariant_of-self-in-Some : goal.invariant_of-self-in-Some
invariant_of-self-in-Some g c = kept_removed _ _ _ _ _ _ c.self.invariant (gone g c) (was g c) c.try_remove.ensures.updates

pub returns-in-None-clause-value : goal.returns-in-None-clause-value
returns-in-None-clause-value g c = rw (← c.self.view_is) (sym (kept_found _ _ c.args.k c.self.invariant ∙ sym c.try_remove.ensures.value ∙ c.in-None.is))

pub returns-in-Some-clause-value : goal.returns-in-Some-clause-value
returns-in-Some-clause-value g c = rw (← c.self.view_is) (sym (kept_found _ _ c.args.k c.self.invariant ∙ was g c))

pub returns-in-Some-clause-removed : goal.returns-in-Some-clause-removed
returns-in-Some-clause-removed g c = rw (← c.self.view_is) (gone g c)
