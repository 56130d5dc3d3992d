use Rattle.std.proofs.Common.{◌≤◌, sym, subst}
use Rattle.size_field.specs.Size.{SizeField}
use Rattle.size_field.proofs.Kept.{alike_below}
use Rattle.size_field.proofs.sizes.Sizes.below.Goals as goal

pub returns : goal.returns
returns c =
    let field : SizeField = record { greatest = c.self.inside.greatest; grading = c.self.inside.grading; sources = c.self.inside.sources.items } in
    let below : c.args.length ≤ field.greatest = subst (λ (f : SizeField). c.args.length ≤ f.greatest) (sym c.self.view_is) c.requires.length in
    rw (sym c.self.view_is) (alike_below field c.self.inside.tree c.args.at.now c.least.result c.args.length c.self.invariant below c.least.ensures)
