use native.Mathlib.Omega.{arith}
use Rattle.std.proofs.Common.{◌≡◌, ◌∙◌, sym, ap, subst, ◌-◌, ◌<◌, length, IfSome, IfNone}
use Rattle.grid_geom.specs.declared.Point.{Point}
use Rattle.grid_geom.specs.Bounds.{IsOnGrid}
use Rattle.rule_reader.specs.declared.rule.Rule.{Rule}
use Rattle.rule_maps.specs.declared.sums.PlaceConstants.{PlaceConstants}
use Rattle.rule_maps.specs.Places.{new_point}
use Rattle.rule_maps.specs.Sums.{numerator}
use Rattle.rule_maps.proofs.Constants.{listed}
use Rattle.rule_maps.proofs.Compiling.{new_point_is}
use Rattle.rule_maps.proofs.compiled.Compiled.new_point.Goals as goal

pub numerators-requires-clause-constants : goal.numerators-requires-clause-constants
numerators-requires-clause-constants c = (listed c.self.inside.rule.now.points c.args.k c.index.result.now c.index-as_slice-k.result c.self.invariant.rule.points.1 c.self.invariant.rule.new_points.1 c.self.invariant.new_points c.as_slice.ensures (subst (λ (g : Rule). c.args.k - 1 < length g.new_points) (sym c.self.view_is) (omega (arith, c.requires.first, c.requires.last))) c.index.ensures c.index-as_slice-k.is).small

pub returns-clause-placed : goal.returns-clause-placed
returns-clause-placed c = subst (λ (g : Rule). IfSome c.put.result (λ p. p ≡ new_point (record { frame = c.args.f.now; rule = g; mapped = c.args.mapped.now }) c.args.k)) c.self.view_is
    (subst (λ (w : Point). IfSome c.put.result (λ p. p ≡ w)) (new_point_is (record { frame = c.args.f.now; rule = c.self.inside.rule.now; mapped = c.args.mapped.now }) c.args.k c.index-as_slice-k.result c.numerators.result.u c.numerators.result.v c.put.ensures.frame (listed c.self.inside.rule.now.points c.args.k c.index.result.now c.index-as_slice-k.result c.self.invariant.rule.points.1 c.self.invariant.rule.new_points.1 c.self.invariant.new_points c.as_slice.ensures (subst (λ (g : Rule). c.args.k - 1 < length g.new_points) (sym c.self.view_is) (omega (arith, c.requires.first, c.requires.last))) c.index.ensures c.index-as_slice-k.is).place (record { u_is = c.numerators.ensures.u ∙ ap (λ (d : PlaceConstants). numerator c.args.f.now c.args.mapped.now d.x c.index-as_slice-k.result.row_x) (listed c.self.inside.rule.now.points c.args.k c.index.result.now c.index-as_slice-k.result c.self.invariant.rule.points.1 c.self.invariant.rule.new_points.1 c.self.invariant.new_points c.as_slice.ensures (subst (λ (g : Rule). c.args.k - 1 < length g.new_points) (sym c.self.view_is) (omega (arith, c.requires.first, c.requires.last))) c.index.ensures c.index-as_slice-k.is).constants; v_is = c.numerators.ensures.v ∙ ap (λ (d : PlaceConstants). numerator c.args.f.now c.args.mapped.now d.y c.index-as_slice-k.result.row_y) (listed c.self.inside.rule.now.points c.args.k c.index.result.now c.index-as_slice-k.result c.self.invariant.rule.points.1 c.self.invariant.rule.new_points.1 c.self.invariant.new_points c.as_slice.ensures (subst (λ (g : Rule). c.args.k - 1 < length g.new_points) (sym c.self.view_is) (omega (arith, c.requires.first, c.requires.last))) c.index.ensures c.index-as_slice-k.is).constants })) c.put.ensures.some)

pub returns-clause-off : goal.returns-clause-off
returns-clause-off c = subst (λ (g : Rule). IfNone c.put.result (¬ IsOnGrid (new_point (record { frame = c.args.f.now; rule = g; mapped = c.args.mapped.now }) c.args.k))) c.self.view_is
    (subst (λ (w : Point). IfNone c.put.result (¬ IsOnGrid w)) (new_point_is (record { frame = c.args.f.now; rule = c.self.inside.rule.now; mapped = c.args.mapped.now }) c.args.k c.index-as_slice-k.result c.numerators.result.u c.numerators.result.v c.put.ensures.frame (listed c.self.inside.rule.now.points c.args.k c.index.result.now c.index-as_slice-k.result c.self.invariant.rule.points.1 c.self.invariant.rule.new_points.1 c.self.invariant.new_points c.as_slice.ensures (subst (λ (g : Rule). c.args.k - 1 < length g.new_points) (sym c.self.view_is) (omega (arith, c.requires.first, c.requires.last))) c.index.ensures c.index-as_slice-k.is).place (record { u_is = c.numerators.ensures.u ∙ ap (λ (d : PlaceConstants). numerator c.args.f.now c.args.mapped.now d.x c.index-as_slice-k.result.row_x) (listed c.self.inside.rule.now.points c.args.k c.index.result.now c.index-as_slice-k.result c.self.invariant.rule.points.1 c.self.invariant.rule.new_points.1 c.self.invariant.new_points c.as_slice.ensures (subst (λ (g : Rule). c.args.k - 1 < length g.new_points) (sym c.self.view_is) (omega (arith, c.requires.first, c.requires.last))) c.index.ensures c.index-as_slice-k.is).constants; v_is = c.numerators.ensures.v ∙ ap (λ (d : PlaceConstants). numerator c.args.f.now c.args.mapped.now d.y c.index-as_slice-k.result.row_y) (listed c.self.inside.rule.now.points c.args.k c.index.result.now c.index-as_slice-k.result c.self.invariant.rule.points.1 c.self.invariant.rule.new_points.1 c.self.invariant.new_points c.as_slice.ensures (subst (λ (g : Rule). c.args.k - 1 < length g.new_points) (sym c.self.view_is) (omega (arith, c.requires.first, c.requires.last))) c.index.ensures c.index-as_slice-k.is).constants })) c.put.ensures.none)
