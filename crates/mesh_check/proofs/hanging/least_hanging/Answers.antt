use Rattle.std.proofs.Common.{List, ◌∙◌, ap, subst, arith}
use Rattle.grid_geom.specs.declared.Point.{Point}
use Rattle.grid_geom.specs.Polygon.{sides}
use Rattle.state_law.specs.State.{corners_of}
use Rattle.vol_format.specs.declared.MeshElement.{MeshElement}
use Rattle.mesh_check.specs.Least.{IsLeastNumber}
use Rattle.mesh_check.specs.Hung.{IsMetIn}
use Rattle.mesh_check.proofs.OpenSides.{with_found, all_hanging, hung_by_entries}
use Rattle.mesh_check.proofs.hanging.least_hanging.Goals as goal

pub loop-i-preserved : goal.loop-i-preserved
loop-i-preserved c = with_found c.args.points.now c.args.elements.now c.loop-i.i c.index-elements-i.result c.loop-i.least c.with_element-least.result c.in_ok-found.found c.loop-i-test.true
    (hung_by_entries c.args.points.now c.args.passed.now c.args.elements.now c.loop-i.i c.index-elements-i.result c.in_ok-tree.tree.entries c.in_ok-found.found c.in_ok-tree.ensures c.requires.passed c.loop-i-test.true
    (subst (λ (ps : List Point). IsLeastNumber (IsMetIn c.in_ok-tree.tree.entries (sides ps)) c.in_ok-found.found) (c.deref.ensures.value ∙ c.in_ok-corners.ensures.corners ∙ ap (corners_of c.args.points.now) c.as_slice.ensures ∙ ap (λ (e : MeshElement). corners_of c.args.points.now e.corners) c.index-elements-i.is) c.in_ok-found.ensures))
    c.with_element-least.ensures.none c.with_element-least.ensures.some c.loop-i.invariant

pub returns : goal.returns
returns c = all_hanging c.args.points.now c.args.elements.now c.loop-i.i c.loop-i.least (omega arith) c.loop-i.invariant
