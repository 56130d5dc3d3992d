use Rattle.std.proofs.Common.{◌≡◌, ◌∙◌, ◌+ℤ◌, ◌≤ℤ◌, ℤ, sym, subst, refl, pos, List}
use Rattle.grid_geom.specs.declared.Edge.{Edge}
use Rattle.grid_geom.specs.Area.{shoelace}
use Rattle.grid_geom.specs.Polygon.{sides}
use Rattle.std.proofs.lemmas.Int.{to_z-of_z}
use mir.Val.{SFits}
use mir.Syntax.{w128}
use Rattle.wind_law.specs.Centre.{centre}
use Rattle.grid_geom.specs.Winding.{wind}
use Rattle.front_chain.specs.Front.{edges_of}
use Rattle.admission.specs.declared.triangle.Line.{Line}
use Rattle.admission.specs.Triangles.{corners_of_triangle, HasSome, AreLeast}
use Rattle.admission.specs.Admission.{edges_at, IsWithin, MeetsLine, HasPointOnSide, HasCornerOnLine, HasSideBackwards}
use Rattle.admission.proofs.Transfer.{least_in_state}
use Rattle.admission.proofs.Verdicts.{least_there, apart_from, free_sides, free_corners, is_clear, once_by_side, once_by_sum, sum_if_once, none_at_centre, may_join}
use Rattle.admission.proofs.Compared.{clash, none_is_one, some_number, less, not_less}
use Rattle.admission.proofs.view.verdict.Goals as goal
use Rattle.admission.proofs.view.verdict.Goals.{then-is_none+else-not-winds_once, else-is_none}

pub returns-in-Some : goal.returns-in-Some
returns-in-Some c =
    λ st box v i.
    let cs = corners_of_triangle c.args.shape.now.t in
    let t = c.turned.ensures.0 c.if-not-turned.false in
    let h = c.of_lines-least.result in
    let a = least_in_state c.args.front.now box st c.args.view.now c.args.shape.now h v i t (subst (λ (ls : List Line). AreLeast cs (λ R. HasSome R ls) h) c.deref.ensures.value c.of_lines-least.ensures) in
    (refl, t, least_there (MeetsLine st cs) h.met c.in-Some.line a.met c.in-Some.is)

pub returns-in-Some-on_side : goal.returns-in-Some-on_side
returns-in-Some-on_side c =
    λ st box v i.
    let cs = corners_of_triangle c.args.shape.now.t in
    let t = c.turned.ensures.0 c.if-not-turned.false in
    let h = c.of_lines-least.result in
    let a = least_in_state c.args.front.now box st c.args.view.now c.args.shape.now h v i t (subst (λ (ls : List Line). AreLeast cs (λ R. HasSome R ls) h) c.deref.ensures.value c.of_lines-least.ensures) in
    (refl, apart_from st cs h t a c.in_default.is, least_there (HasPointOnSide st cs) h.on_side c.in-Some-on_side.point a.on_side c.in-Some-on_side.is)

pub returns-in-Some-corner_on : goal.returns-in-Some-corner_on
returns-in-Some-corner_on c =
    λ st box v i.
    let cs = corners_of_triangle c.args.shape.now.t in
    let t = c.turned.ensures.0 c.if-not-turned.false in
    let h = c.of_lines-least.result in
    let a = least_in_state c.args.front.now box st c.args.view.now c.args.shape.now h v i t (subst (λ (ls : List Line). AreLeast cs (λ R. HasSome R ls) h) c.deref.ensures.value c.of_lines-least.ensures) in
    (refl, free_sides st cs h t a c.in_default.is c.in_default-on_side.is, least_there (HasCornerOnLine st cs) h.corner_on c.in-Some-corner_on.line a.corner_on c.in-Some-corner_on.is)

pub returns-in-Some-backwards : goal.returns-in-Some-backwards
returns-in-Some-backwards c =
    λ st box v i.
    let cs = corners_of_triangle c.args.shape.now.t in
    let t = c.turned.ensures.0 c.if-not-turned.false in
    let h = c.of_lines-least.result in
    let a = least_in_state c.args.front.now box st c.args.view.now c.args.shape.now h v i t (subst (λ (ls : List Line). AreLeast cs (λ R. HasSome R ls) h) c.deref.ensures.value c.of_lines-least.ensures) in
    (refl, free_corners st cs h t a c.in_default.is c.in_default-on_side.is c.in_default-corner_on.is, least_there (HasSideBackwards st cs) h.backwards c.in-Some-backwards.line a.backwards c.in-Some-backwards.is)

pub returns-then-not-winds_once : goal.returns-then-not-winds_once
returns-then-not-winds_once c =
    λ st box v i.
    let cs = corners_of_triangle c.args.shape.now.t in
    let t = c.turned.ensures.0 c.if-not-turned.false in
    let h = c.of_lines-least.result in
    let a = least_in_state c.args.front.now box st c.args.view.now c.args.shape.now h v i t (subst (λ (ls : List Line). AreLeast cs (λ R. HasSome R ls) h) c.deref.ensures.value c.of_lines-least.ensures) in
    let k = is_clear st cs h t a c.in_default.is c.in_default-on_side.is c.in_default-corner_on.is c.in_default-backwards.is in
    let not_once : ¬ (wind (centre cs) (edges_at st) ≡ pos 1) = λ e. clash c.if-not-winds_once.true (c.winds_once.ensures.1 (subst (λ (es : List Edge). wind (centre cs) (edges_of c.args.front.now) ≡ wind (centre cs) es +ℤ pos 1) (sym c.deref-then-is_none.ensures.value) (sum_if_once (wind (centre cs) (edges_of c.args.front.now)) (wind (centre cs) c.args.view.now.taken.items) (wind (centre cs) (edges_at st)) (v.winding (centre cs)) e))) in
    (refl, k, none_at_centre st cs v.region k not_once, λ e. none_is_one e)

pub returns-then-view-double_area : goal.returns-then-view-double_area
returns-then-view-double_area c =
    λ st box v i.
    let cs = corners_of_triangle c.args.shape.now.t in
    let t = c.turned.ensures.0 c.if-not-turned.false in
    let h = c.of_lines-least.result in
    let a = least_in_state c.args.front.now box st c.args.view.now c.args.shape.now h v i t (subst (λ (ls : List Line). AreLeast cs (λ R. HasSome R ls) h) c.deref.ensures.value c.of_lines-least.ensures) in
    let k = is_clear st cs h t a c.in_default.is c.in_default-on_side.is c.in_default-corner_on.is c.in_default-backwards.is in
    let once : wind (centre cs) (edges_at st) ≡ pos 1 = elim c.if-is_none.branch [
      | then-is_none+else-not-winds_once w ↦ once_by_sum (wind (centre cs) (edges_of c.args.front.now)) (wind (centre cs) c.args.view.now.taken.items) (wind (centre cs) (edges_at st)) (v.winding (centre cs))
          (subst (λ (es : List Edge). wind (centre cs) (edges_of c.args.front.now) ≡ wind (centre cs) es +ℤ pos 1) w.deref-then-is_none.ensures.value (w.winds_once.ensures.0 w.if-not-winds_once.false))
      | else-is_none w ↦ let s = some_number h.side c.is_none.result c.is_none.ensures w.if-is_none.false in once_by_side st cs s.0 v.region k (a.side s.0 s.1)
    ] in
    let within : IsWithin st cs = record { before = k; within = once } in
    let fa : SFits w128 c.double_area.result = record { sfits = c.double_area.type_inv } in
    let fl : SFits w128 c.args.view.now.left = v.fits in
    let back = to_z-of_z w128 c.args.view.now.left fl in
    (refl, within, back ∙ v.left, less (back) (to_z-of_z w128 c.double_area.result fa) c.double_area.ensures c.if-view-double_area.true)

pub returns : goal.returns
returns c =
    λ st box v i.
    let cs = corners_of_triangle c.args.shape.now.t in
    let t = c.turned.ensures.0 c.if-not-turned.false in
    let h = c.of_lines-least.result in
    let a = least_in_state c.args.front.now box st c.args.view.now c.args.shape.now h v i t (subst (λ (ls : List Line). AreLeast cs (λ R. HasSome R ls) h) c.deref.ensures.value c.of_lines-least.ensures) in
    let k = is_clear st cs h t a c.in_default.is c.in_default-on_side.is c.in_default-corner_on.is c.in_default-backwards.is in
    let once : wind (centre cs) (edges_at st) ≡ pos 1 = elim c.if-is_none.branch [
      | then-is_none+else-not-winds_once w ↦ once_by_sum (wind (centre cs) (edges_of c.args.front.now)) (wind (centre cs) c.args.view.now.taken.items) (wind (centre cs) (edges_at st)) (v.winding (centre cs))
          (subst (λ (es : List Edge). wind (centre cs) (edges_of c.args.front.now) ≡ wind (centre cs) es +ℤ pos 1) w.deref-then-is_none.ensures.value (w.winds_once.ensures.0 w.if-not-winds_once.false))
      | else-is_none w ↦ let s = some_number h.side c.is_none.result c.is_none.ensures w.if-is_none.false in once_by_side st cs s.0 v.region k (a.side s.0 s.1)
    ] in
    let within : IsWithin st cs = record { before = k; within = once } in
    let fa : SFits w128 c.double_area.result = record { sfits = c.double_area.type_inv } in
    let fl : SFits w128 c.args.view.now.left = v.fits in
    let back = to_z-of_z w128 c.args.view.now.left fl in
    may_join st cs v.region within (subst (λ (z : ℤ). shoelace (sides cs) ≤ℤ z) v.left (not_less (back) (to_z-of_z w128 c.double_area.result fa) c.double_area.ensures c.if-view-double_area.false))
