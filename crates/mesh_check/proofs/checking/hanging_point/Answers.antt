use Rattle.std.proofs.Common.{◌≡◌, ℕ, ◌<◌, Bool, true, List, length, slice_index_or, IfOk, IfNone, sym, subst}
use Rattle.grid_geom.specs.declared.Point.{Point}
use Rattle.vol_format.specs.declared.MeshElement.{MeshElement}
use Rattle.mesh_check.specs.Whole.{DoesHang}
use Rattle.mesh_check.proofs.checking.hanging_point.Goals as goal

pub returns-then-are_all-clause-none : goal.returns-then-are_all-clause-none
returns-then-are_all-clause-none c = λ i k h. c.in_ok-spared.ensures.unhung i k h.point_in_list (subst (λ (bs : List Bool). slice_index_or bs i true ≡ true) c.as_slice-passed.ensures.value
    (c.are_all.ensures c.if-are_all.true i true (subst (λ (bs : List Bool). i < length bs) (sym c.as_slice-passed.ensures.value) (subst (λ (n : ℕ). i < n) (sym c.in_ok-spared.ensures.long) h.point_in_list)))) h

pub hanging-requires-clause-passed : goal.hanging-requires-clause-passed
hanging-requires-clause-passed c = rw (c.as_slice-points.ensures, c.as_slice-elements.ensures, c.as_slice-passed.ensures.value) c.in_ok-spared.ensures.unhung

pub returns-clause-none : goal.returns-clause-none
returns-clause-none c = subst (λ (ps : List Point). IfOk c.hanging.result (λ found. IfNone found ((i k : ℕ) → ¬ (DoesHang ps c.args.m.now.elements i k)))) c.as_slice-points.ensures
    (subst (λ (es : List MeshElement). IfOk c.hanging.result (λ found. IfNone found ((i k : ℕ) → ¬ (DoesHang c.as_slice-points.result.now es i k)))) c.as_slice-elements.ensures c.hanging.ensures.none)
