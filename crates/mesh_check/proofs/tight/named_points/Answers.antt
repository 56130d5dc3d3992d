use Rattle.std.proofs.Common.{◌≡◌, ◌⊎◌, ℕ, ◌+◌, ◌<◌, Bool, true, List, length, slice_index_or, sym, ◌∙◌, ap, subst}
use Rattle.std.specs.List.{Contains}
use Rattle.vol_format.specs.declared.MeshElement.{MeshElement}
use Rattle.mesh_check.proofs.Noted.{name_more, named_all}
use Rattle.mesh_check.proofs.tight.named_points.Goals as goal

pub loop-element-preserved : goal.loop-element-preserved
loop-element-preserved c = (
  c.note.ensures.long ∙ c.loop-element.invariant.0,
  name_more c.loop-element.noted.items c.note.new.noted.items c.args.elements.now c.loop-element.element-index c.element-item.result c.loop-element-test.true c.note.ensures.long
      (subst (λ (ns : List ℕ). (i : ℕ) (b : Bool) → i < length c.loop-element.noted.items → slice_index_or c.note.new.noted.items i b ≡ true → (slice_index_or c.loop-element.noted.items i b ≡ true) ⊎ Contains ns (i + 1))
      (c.as_slice.ensures ∙ ap (λ (e : MeshElement). e.corners) c.element-item.is) c.note.ensures.noted) c.loop-element.invariant.1,
)

pub returns-clause-named : goal.returns-clause-named
returns-clause-named c = λ i l t. named_all c.loop-element.noted.items c.args.elements.now c.loop-element.element-index c.loop-element.invariant.1 i (subst (λ (n : ℕ). i < n) (sym c.loop-element.invariant.0) l) t
