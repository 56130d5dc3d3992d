use Rattle.front_chain.specs.Front.{edges_of}
use Rattle.admission.proofs.Casts.{same_sum}
use mir.Val.{SFits}
use mir.Syntax.{w64, w128}
use Rattle.grid_geom.specs.declared.RatPoint.{RatPoint}
use Rattle.std.proofs.Common.{◌≡◌, subst}
use Rattle.grid_geom.specs.Winding.{wind}
use Rattle.wind_law.specs.Centre.{centre}
use Rattle.admission.specs.Triangles.{corners_of_triangle}
use Rattle.admission.proofs.view.winds_once.Goals as goal

pub returns : goal.returns
returns c =
    let fa : SFits w128 c.winding_of.result = record { sfits = c.winding_of.type_inv } in let fw : SFits w64 c.winding.result = record { sfits = c.winding.type_inv } in
    same_sum c.winding_of.result c.winding.result (wind (centre (corners_of_triangle c.args.t.now)) (edges_of c.args.front.now)) (wind (centre (corners_of_triangle c.args.t.now)) c.args.taken.now) fa fw
    (subst (λ (q : RatPoint). c.winding_of.result ≡ wind q (edges_of c.args.front.now)) c.centre-q.ensures.value c.winding_of.ensures)
    (subst (λ (q : RatPoint). c.winding.result ≡ wind q c.args.taken.now) c.centre-q.ensures.value c.winding.ensures)
