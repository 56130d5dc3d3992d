use Rattle.std.proofs.Common.{ℕ, ◌<◌, slice_index_or}
use Rattle.vol_format.specs.declared.MeshElement.{MeshElement}
use Rattle.mesh_check.specs.Whole.{HasDomainOf}
use Rattle.mesh_check.proofs.elements.first_foreign.Given as goal

abbrev pub invariant-loop-i : goal.invariant-loop-i
invariant-loop-i l = (k : ℕ) (d : MeshElement) → k < l.i → HasDomainOf l.domains (slice_index_or l.elements k d)
