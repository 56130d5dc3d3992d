use Rattle.std.proofs.Common.{rules, sym, ◌∙◌}
use Rattle.digital_tree.proofs.Lists.{first_here, first_there}
use Rattle.digital_tree.proofs.Parts.{within, two_sides, none_met}
use Rattle.digital_tree.proofs.part.Part.+first_hit.Goals as goal

pub returns-then-not-meet : goal.returns-then-not-meet
returns-then-not-meet g t c = sym (none_met c.args.b.now c.self.inside.bounds c.args.self.now (within _ _ _ c.self.view_is c.self.invariant) (λ h. let t = c.meet.ensures.1 h in search rules))

pub returns-in-Some : goal.returns-in-Some
returns-in-Some g t c = first_here _ _ _ _ _ (two_sides _ _ _ _ c.self.view_is c.in-Two.is) (sym (rw c.deref.ensures at c.first_hit.ensures) ∙ c.in-Some.is)

pub returns-in-None : goal.returns-in-None
returns-in-None g t c =
    (rw c.deref-in-None.ensures at c.first_hit-in-None.ensures)
    ∙ first_there _ _ _ _ (two_sides _ _ _ _ c.self.view_is c.in-Two.is) (sym (rw c.deref.ensures at c.first_hit.ensures) ∙ c.in-None.is)
