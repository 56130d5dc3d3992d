use mir.Val.{SFits}
use mir.Syntax.{w128}
use lib.IntN.{◌+ℤ◌, ◌-ℤ◌}
use Rattle.std.specs.List.{AllByRecursion}
use Rattle.std.proofs.Common.{◌≤◌, ◌∙◌, sym, ap, subst, length}
use Rattle.std.proofs.lemmas.Int.{to_z-of_z}
use Rattle.grid_geom.specs.Area.{shoelace}
use Rattle.grid_geom.specs.Polygon.{sides}
use Rattle.grid_geom.specs.Winding.{wind}
use Rattle.state_law.specs.State.{front_edges, corners_of, glue_lines, next_after_all, number_sides}
use Rattle.state_law.proofs.Glued.{glued_wind}
use Rattle.front_chain.specs.Front.{IsGluable, IsWalk, edges_of, still_waiting}
use Rattle.front_chain.specs.Gluable.{CanJoin}
use Rattle.front_chain.proofs.Joins.{gluable_joins}
use Rattle.front_chain.proofs.Kept.{front_as, front_glued, after_glue, area_left, edges_glued}
use Rattle.front_chain.proofs.front.Front.glue.Goals as goal

pub glue_sides-requires-clause-can : goal.glue_sides-requires-clause-can
glue_sides-requires-clause-can c =
    let f = c.self.inside.chain in
    let may = subst (λ v. IsGluable v c.args.el.now) (sym c.self.view_is) c.requires.gluable in
    subst (λ ns. CanJoin (length f.points) f.lines (number_sides ns)) (sym c.as_slice-corners.ensures) (gluable_joins f c.args.el.now may)

pub overflow_sub-self : goal.overflow_sub-self
overflow_sub-self c =
    let f = c.self.inside.chain in
    let may = subst (λ v. IsGluable v c.args.el.now) (sym c.self.view_is) c.requires.gluable in
    let area = area_left f c.args.el.now c.self.inside.area c.element_area-taken.result c.self.invariant.0 may c.self.invariant.1 (c.element_area-taken.ensures ∙ ap (λ ns. shoelace (sides (corners_of f.points ns))) c.as_slice-corners.ensures) in
    let whole : SFits w128 c.self.inside.area = area.fits in
    let taken : SFits w128 c.element_area-taken.result = record { sfits = c.element_area-taken.type_inv } in
    simp to_z-of_z area.left_fits

pub invariant_of-self : goal.invariant_of-self
invariant_of-self c =
    let f = c.self.inside.chain in
    let el = c.args.el.now in
    let may = subst (λ v. IsGluable v el) (sym c.self.view_is) c.requires.gluable in
    let lines = c.use_points.ensures.lines ∙ c.glue_sides.ensures.lines ∙ ap (λ ns. glue_lines f.lines f.next (number_sides ns)) c.as_slice-corners.ensures in
    let next = c.use_points.ensures.next ∙ c.glue_sides.ensures.next ∙ ap (λ ns. next_after_all f.lines f.next (number_sides ns)) c.as_slice-corners.ensures in
    let points = c.use_points.ensures.points ∙ c.glue_sides.ensures.points in
    let waiting = c.use_points.ensures.waiting ∙ (λ i. still_waiting (c.glue_sides.ensures.waiting i) (c.as_slice-corners.ensures i)) in
    let walked = subst (IsWalk c.use_points.new.self.walk) lines c.use_points.ensures.walked in
    let positive = subst (AllByRecursion (λ line. 1 ≤ line.0)) lines c.use_points.ensures.positive in
    let area = area_left f el c.self.inside.area c.element_area-taken.result c.self.invariant.0 may c.self.invariant.1 (c.element_area-taken.ensures ∙ ap (λ ns. shoelace (sides (corners_of f.points ns))) c.as_slice-corners.ensures) in
    let whole : SFits w128 c.self.inside.area = area.fits in
    let taken : SFits w128 c.element_area-taken.result = record { sfits = c.element_area-taken.type_inv } in
    let left : SFits w128 (c.self.inside.area -ℤ c.element_area-taken.result) = area.left_fits in (
      front_as (after_glue f el c.use_points.new.self.walk) c.use_points.new.self (sym points) (sym lines) (sym next) (λ i. c.use_points.new.self.walk) (sym waiting) (front_glued f el c.use_points.new.self.walk c.self.invariant.0 may walked positive),
      simp to_z-of_z (area.left ∙ sym (λ i. shoelace (front_edges (points i) (lines i)))),
    )

pub returns-clause-winding : goal.returns-clause-winding
returns-clause-winding c q =
    let f = c.self.inside.chain in
    let el = c.args.el.now in
    let may = subst (λ v. IsGluable v el) (sym c.self.view_is) c.requires.gluable in
    let lines = c.use_points.ensures.lines ∙ c.glue_sides.ensures.lines ∙ ap (λ ns. glue_lines f.lines f.next (number_sides ns)) c.as_slice-corners.ensures in
    let points = c.use_points.ensures.points ∙ c.glue_sides.ensures.points in
    let edges = edges_glued f el c.self.invariant.0 may in
    ap (λ v. wind q (edges_of v)) (sym c.self.view_is) ∙ glued_wind q (edges_of f) (sides (corners_of f.points el))
    ∙ (λ i. wind q (sides (corners_of (c.self.view_is i).points el)) +ℤ wind q ((sym edges ∙ sym (λ j. front_edges (points j) (lines j))) i))
