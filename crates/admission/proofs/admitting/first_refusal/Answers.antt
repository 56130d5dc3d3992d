use Rattle.std.proofs.Common.{◌∙◌, List, sym, subst, arith}
use Rattle.grid_geom.specs.declared.Bounds.{Bounds}
use Rattle.grid_geom.specs.Area.{shoelace}
use Rattle.grid_geom.specs.Polygon.{sides}
use Rattle.std.specs.List.{All}
use Rattle.state_law.proofs.Glued.{convex_area}
use Rattle.admission.specs.declared.shapes.Shape.{Shape}
use Rattle.admission.specs.Triangles.{corners_of_triangle}
use Rattle.admission.specs.Around.{all_points, IsShapeIn}
use Rattle.admission.specs.Admission.{entered, MayFollow}
use Rattle.admission.specs.Kept.{IsViewOf}
use Rattle.std.proofs.lemmas.List.{take_all}
use Rattle.admission.proofs.Turns.{AreShapes, turn_state, turn, turn_refused, turn_may, turn_room, turn_covered, turn_shapes, turn_kept, turn_follows}
use Rattle.admission.proofs.Views.{view_lines_on, positive}
use Rattle.admission.proofs.admitting.first_refusal.Goals as goal

pub loop-k-init : goal.loop-k-init
loop-k-init c =
    record {
      shapes = subst (λ (box : Bounds). AreShapes (all_points c.args.front.now c.args.made.now) box c.args.elements.now c.in_ok-shapes.shapes.items) (sym c.in_ok-view.ensures.near) (record {
        shapes_are = c.in_ok-shapes.ensures.value;
        three = c.requires.three;
        listed = c.requires.listed;
        on_grid = c.in_ok-shapes.ensures.on_grid;
        boxed = subst (λ (ss : List Shape). All (IsShapeIn c.box_of-near.result) ss) c.deref.ensures.value c.box_of-near.ensures;
      });
      kept = subst (λ (box : Bounds). IsViewOf c.args.front.now box (entered c.args.front.now c.args.made.now) c.in_ok-view.view) (sym c.in_ok-view.ensures.near) c.in_ok-view.ensures.kept;
      may = tt;
    }

pub verdict-found-requires-clause-lines_on : goal.verdict-found-requires-clause-lines_on
verdict-found-requires-clause-lines_on c =
    view_lines_on c.args.front.now c.loop-k.view.near (turn_state (entered c.args.front.now c.args.made.now) c.args.elements.now c.loop-k.k) c.loop-k.view c.loop-k.invariant.kept

pub verdict-found-requires-clause-taken_on : goal.verdict-found-requires-clause-taken_on
verdict-found-requires-clause-taken_on c =
    c.loop-k.invariant.kept.taken_on

pub returns-then-is_some : goal.returns-then-is_some
returns-then-is_some c =
    let st = entered c.args.front.now c.args.made.now in
    let t = turn c.args.front.now st c.args.elements.now c.in_ok-shapes.shapes.items c.loop-k.k c.index.result.now c.loop-k.view c.loop-k-test.true c.loop-k.invariant.shapes c.loop-k.invariant.kept c.loop-k.invariant.may c.index.ensures in
    turn_refused c.args.front.now st c.args.elements.now c.in_ok-shapes.shapes.items c.loop-k.k c.index.result.now c.loop-k.view c.verdict-found.result t c.verdict-found.ensures (sym c.is_some.ensures ∙ c.if-is_some.true)

pub glue-requires-clause-room : goal.glue-requires-clause-room
glue-requires-clause-room c =
    let st = entered c.args.front.now c.args.made.now in
    let t = turn c.args.front.now st c.args.elements.now c.in_ok-shapes.shapes.items c.loop-k.k c.index.result.now c.loop-k.view c.loop-k-test.true c.loop-k.invariant.shapes c.loop-k.invariant.kept c.loop-k.invariant.may c.index.ensures in
    let m = turn_may c.args.front.now st c.args.elements.now c.in_ok-shapes.shapes.items c.loop-k.k c.index.result.now c.loop-k.view c.verdict-found.result t c.verdict-found.ensures (sym c.is_some.ensures ∙ c.if-is_some.false) in
    turn_room c.args.front.now st c.args.elements.now c.in_ok-shapes.shapes.items c.loop-k.k c.index.result.now c.loop-k.view t m

pub glue-requires-clause-positive : goal.glue-requires-clause-positive
glue-requires-clause-positive c =
    let st = entered c.args.front.now c.args.made.now in
    let t = turn c.args.front.now st c.args.elements.now c.in_ok-shapes.shapes.items c.loop-k.k c.index.result.now c.loop-k.view c.loop-k-test.true c.loop-k.invariant.shapes c.loop-k.invariant.kept c.loop-k.invariant.may c.index.ensures in
    let m = turn_may c.args.front.now st c.args.elements.now c.in_ok-shapes.shapes.items c.loop-k.k c.index.result.now c.loop-k.view c.verdict-found.result t c.verdict-found.ensures (sym c.is_some.ensures ∙ c.if-is_some.false) in
    positive (shoelace (sides (corners_of_triangle c.index.result.now.t))) (convex_area (corners_of_triangle c.index.result.now.t) m.turned)

pub glue-requires-clause-covered : goal.glue-requires-clause-covered
glue-requires-clause-covered c =
    let st = entered c.args.front.now c.args.made.now in
    let t = turn c.args.front.now st c.args.elements.now c.in_ok-shapes.shapes.items c.loop-k.k c.index.result.now c.loop-k.view c.loop-k-test.true c.loop-k.invariant.shapes c.loop-k.invariant.kept c.loop-k.invariant.may c.index.ensures in
    let m = turn_may c.args.front.now st c.args.elements.now c.in_ok-shapes.shapes.items c.loop-k.k c.index.result.now c.loop-k.view c.verdict-found.result t c.verdict-found.ensures (sym c.is_some.ensures ∙ c.if-is_some.false) in
    turn_covered c.args.front.now st c.args.elements.now c.in_ok-shapes.shapes.items c.loop-k.k c.index.result.now c.loop-k.view t m

pub glue-requires-clause-fits : goal.glue-requires-clause-fits
glue-requires-clause-fits c =
    c.loop-k.invariant.kept.fits

pub loop-k-preserved : goal.loop-k-preserved
loop-k-preserved c =
    let st = entered c.args.front.now c.args.made.now in
    let t = turn c.args.front.now st c.args.elements.now c.in_ok-shapes.shapes.items c.loop-k.k c.index.result.now c.loop-k.view c.loop-k-test.true c.loop-k.invariant.shapes c.loop-k.invariant.kept c.loop-k.invariant.may c.index.ensures in
    let m = turn_may c.args.front.now st c.args.elements.now c.in_ok-shapes.shapes.items c.loop-k.k c.index.result.now c.loop-k.view c.verdict-found.result t c.verdict-found.ensures (sym c.is_some.ensures ∙ c.if-is_some.false) in
    record {
      shapes = turn_shapes c.args.front.now st c.args.elements.now c.in_ok-shapes.shapes.items c.loop-k.k c.index.result.now c.loop-k.view c.glue.new.self t c.in_ok-glue.ensures;
      kept = turn_kept c.args.front.now st c.args.elements.now c.in_ok-shapes.shapes.items c.loop-k.k c.index.result.now c.loop-k.view c.glue.new.self t m c.in_ok-glue.ensures;
      may = turn_follows c.args.front.now st c.args.elements.now c.in_ok-shapes.shapes.items c.loop-k.k c.index.result.now c.loop-k.view t m;
    }

pub returns : goal.returns
returns c =
    subst (MayFollow (entered c.args.front.now c.args.made.now)) (take_all c.loop-k.k c.args.elements.now (omega (arith, c.loop-k-test.false))) c.loop-k.invariant.may
