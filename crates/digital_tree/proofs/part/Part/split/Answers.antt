use Rattle.std.proofs.Common.{refl}
use Rattle.digital_tree.proofs.Lists.{inserted_last, inserted_head}
use Rattle.digital_tree.proofs.Parts.{within, new_low, new_high}
use Rattle.digital_tree.proofs.part.Part.split.Goals as goal
use Rattle.digital_tree.proofs.part.Part.split.Goals.{then-is_high, else-is_high}

pub of_two-both-requires : goal.of_two-both-requires
of_two-both-requires g c =
    rw (c.replace-old.ensures.value, c.of-new.ensures)
    (new_high c.self.inside.bounds _ _ _ _ (within _ _ _ c.self.view_is c.self.invariant) c.requires c.union-bounds.ensures.first c.union-bounds.ensures.second)

pub of_two-both-requires-else-is_high : goal.of_two-both-requires-else-is_high
of_two-both-requires-else-is_high g c =
    rw (c.replace-old.ensures.value, c.of-new.ensures)
    (new_low c.self.inside.bounds _ _ _ _ (within _ _ _ c.self.view_is c.self.invariant) c.requires c.union-bounds.ensures.first c.union-bounds.ensures.second)

pub returns : goal.returns
returns g c = rw c.both.view_is (elim c.if-is_high.branch [
  | then-is_high w ↦ inserted_last _ _ _ (rw (w.both-is, w.of_two-both.ensures, c.replace-old.ensures.value, c.of-new.ensures) refl)
  | else-is_high w ↦ inserted_head _ _ _ (rw (w.both-is, w.of_two-both-else-is_high.ensures, c.replace-old.ensures.value, c.of-new.ensures) refl)
])
