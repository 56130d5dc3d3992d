use Rattle.std.proofs.Common.{refl, ◌∙◌}
use Rattle.std.proofs.lemmas.List.Sorted.{IsPermutation-refl, IsPermutation-trans}
use Rattle.mesh_check.proofs.shelves.sort_shelves.Goals as goal

pub loop-end-init : goal.loop-end-init
loop-end-init c = (IsPermutation-refl _, refl)

pub loop-end-preserved : goal.loop-end-preserved
loop-end-preserved c = (IsPermutation-trans _ _ _ c.loop-end.invariant.0 c.sort_part.ensures.kept, c.sort_part.ensures.long ∙ c.loop-end.invariant.1)
