use Rattle.size_field.proofs.Kept.{kept_with}
use Rattle.size_field.proofs.sizes.Sizes.add.Goals as goal

pub invariant_of-self-2 : goal.invariant_of-self-2
invariant_of-self-2 c =
    let pushed = rw c.in_ok-reserve.ensures.items at c.push_reserved.ensures.items in
    kept_with _ c.self.inside.tree _ c.args.source _ c.self.invariant c.requires pushed c.in_ok-insert_below.ensures.added
