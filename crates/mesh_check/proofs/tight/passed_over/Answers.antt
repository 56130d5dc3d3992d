use Rattle.std.proofs.Common.{◌<◌, List, length, All, sym, subst}
use Rattle.grid_geom.specs.declared.Point.{Point}
use Rattle.vol_format.specs.declared.EdgeRow.{EdgeRow}
use Rattle.vol_format.specs.declared.MeshElement.{MeshElement}
use Rattle.mesh_check.specs.Tight.{IsNamed, IsRowFree}
use Rattle.mesh_check.proofs.tight.passed_over.Goals as goal

pub returns-then-branch-clause-spared : goal.returns-then-branch-clause-spared
returns-then-branch-clause-spared c = λ i l t. (
  c.if-agree.true,
  record {
    named = subst (λ (es : List MeshElement). IsNamed es i) c.as_slice-elements.ensures (c.in_ok-named.ensures.named i (subst (λ (ps : List Point). i < length ps) (sym c.as_slice-points.ensures) l) t);
    free = subst (λ (rows : List EdgeRow). All (IsRowFree c.args.m.now.points) rows) c.as_slice-rows.ensures (subst (λ (ps : List Point). All (IsRowFree ps) c.as_slice-rows.result.now) c.as_slice-points.ensures (c.in_ok-are_free.ensures c.if-branch.true));
  },
)
