use Rattle.std.proofs.Common.{sym}
use Rattle.digital_tree.proofs.Keys.{kept_found}
use Rattle.digital_tree.proofs.tree.Tree.get.Goals as goal

pub returns-clause-value : goal.returns-clause-value
returns-clause-value g c = rw (← c.self.view_is, c.copied.ensures, c.get.ensures) (sym (kept_found _ _ c.args.k c.self.invariant))
