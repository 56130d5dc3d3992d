use Rattle.std.proofs.Common.{rules}
use Rattle.digital_tree.proofs.Parts.{within, no_hits}
use Rattle.digital_tree.proofs.part.Part.+push_hits.Goals as goal

pub returns-then-not-meet-clause-all : goal.returns-then-not-meet-clause-all
returns-then-not-meet-clause-all g t c =
    no_hits c.args.b.now c.self.inside.bounds c.args.self.now c.args.hits.now.items (within _ _ _ c.self.view_is c.self.invariant) (λ h. let t = c.meet.ensures.1 h in search rules)
