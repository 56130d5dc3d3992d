use Rattle.std.proofs.Common.{sym}
use Rattle.size_field.proofs.Kept.{IsBounded, bounded_at}
use Rattle.size_field.proofs.sizes.Sizes.at.Goals as goal
use Rattle.size_field.proofs.sizes.Sizes.at.Goals.{After-least}

bounded : (c : After-least) → IsBounded (record { greatest = c.self.inside.greatest; grading = c.self.inside.grading; sources = c.self.inside.sources.items }) c.least.result
bounded c = bounded_at _ c.self.inside.tree c.args.at _ c.self.invariant c.least.ensures

pub returns-clause-least : goal.returns-clause-least
returns-clause-least c = (bounded c).least

pub returns-clause-most : goal.returns-clause-most
returns-clause-most c = rw (sym c.self.view_is) (bounded c).most

pub returns-clause-small : goal.returns-clause-small
returns-clause-small c = (bounded c).small
