use Rattle.std.proofs.Common.{ℤ, pos, ◌*ℤ◌, Option, IfNone, sym, subst, ◌∙◌, refl}
use Rattle.grid_geom.specs.declared.Point.{Point}
use Rattle.grid_geom.specs.declared.TheConstants.{GRID}
use Rattle.grid_geom.specs.Bounds.{IsWithin, IsOnGrid}
use Rattle.rule_maps.specs.Frame.{IsWay}
use Rattle.rule_maps.specs.Sums.{put_at}
use Rattle.rule_maps.proofs.Frames.{frame_bounds}
use Rattle.rule_maps.proofs.Putting.{on_back, put_x, put_y, point_is}
use Rattle.rule_maps.proofs.placing.put.Goals as goal

pub across-requires-clause-e : goal.across-requires-clause-e
across-requires-clause-e c = subst (λ (e : Point). IsWay e) (sym c.e-e.ensures.value) (frame_bounds c.args.f.now c.e-e.ensures.frame).way_within

pub returns-in_err-x-clause-none : goal.returns-in_err-x-clause-none
returns-in_err-x-clause-none c = subst (λ (o : Option Point). IfNone o (¬ IsOnGrid (put_at c.args.f.now c.args.at.now.u c.args.at.now.v (pos 100000000 *ℤ pos c.args.weight)))) (sym c.from_residual.ensures) (λ on. c.in_err-x.ensures.none (subst (λ (z : ℤ). IsWithin GRID z) (sym (put_x c.args.f.now c.args.at.now.u c.args.at.now.v (pos 100000000 *ℤ pos c.args.weight) c.p1-p1.ensures.value c.e-e.ensures.value c.across.ensures.value c.across.ensures.small c.denominator-bottom.ensures.value c.denominator-bottom.ensures.positive c.denominator-bottom.ensures.small)) on.x_within))

pub upward-requires-clause-e : goal.upward-requires-clause-e
upward-requires-clause-e c = subst (λ (e : Point). IsWay e) (sym c.e-e.ensures.value) (frame_bounds c.args.f.now c.e-e.ensures.frame).way_within

pub returns-in_err-y-clause-none : goal.returns-in_err-y-clause-none
returns-in_err-y-clause-none c = subst (λ (o : Option Point). IfNone o (¬ IsOnGrid (put_at c.args.f.now c.args.at.now.u c.args.at.now.v (pos 100000000 *ℤ pos c.args.weight)))) (sym c.from_residual-in_err-y.ensures) (λ on. c.in_err-y.ensures.none (subst (λ (z : ℤ). IsWithin GRID z) (sym (put_y c.args.f.now c.args.at.now.u c.args.at.now.v (pos 100000000 *ℤ pos c.args.weight) c.p1-p1.ensures.value c.e-e.ensures.value c.upward.ensures.value c.upward.ensures.small c.denominator-bottom.ensures.value c.denominator-bottom.ensures.positive c.denominator-bottom.ensures.small)) on.y_within))

pub returns-clause-some : goal.returns-clause-some
returns-clause-some c = point_is (put_at c.args.f.now c.args.at.now.u c.args.at.now.v (pos 100000000 *ℤ pos c.args.weight)) (on_back refl c.in_ok-x.ensures.on ∙ c.in_ok-x.ensures.some ∙ (put_x c.args.f.now c.args.at.now.u c.args.at.now.v (pos 100000000 *ℤ pos c.args.weight) c.p1-p1.ensures.value c.e-e.ensures.value c.across.ensures.value c.across.ensures.small c.denominator-bottom.ensures.value c.denominator-bottom.ensures.positive c.denominator-bottom.ensures.small)) (on_back refl c.in_ok-y.ensures.on ∙ c.in_ok-y.ensures.some ∙ (put_y c.args.f.now c.args.at.now.u c.args.at.now.v (pos 100000000 *ℤ pos c.args.weight) c.p1-p1.ensures.value c.e-e.ensures.value c.upward.ensures.value c.upward.ensures.small c.denominator-bottom.ensures.value c.denominator-bottom.ensures.positive c.denominator-bottom.ensures.small))
