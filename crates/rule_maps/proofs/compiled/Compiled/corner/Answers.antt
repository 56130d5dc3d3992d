use native.Mathlib.Omega.{arith}
use Rattle.std.proofs.Common.{◌≡◌, ◌∙◌, sym, ap, subst, ℕ, ◌-◌, ◌<◌, length, List, IfSome, IfNone}
use Rattle.std.proofs.lemmas.Bool.{eqb-true, eq-eqb}
use Rattle.grid_geom.specs.declared.Point.{Point}
use Rattle.grid_geom.specs.Bounds.{IsOnGrid}
use Rattle.grid_geom.proofs.Booleans.{clash}
use Rattle.rule_reader.specs.declared.rule.Rule.{Rule}
use Rattle.rule_reader.specs.declared.rule.Place.{Place}
use Rattle.rule_reader.specs.Normal.{IsPlace}
use Rattle.rule_maps.specs.declared.sums.PlaceConstants.{PlaceConstants}
use Rattle.rule_maps.specs.Places.{corner}
use Rattle.rule_maps.specs.Inert.{HasBadZone}
use Rattle.rule_maps.specs.Sums.{numerator}
use Rattle.rule_maps.proofs.Constants.{listed}
use Rattle.rule_maps.proofs.Compiling.{corner_alone, corner_is, as_many}
use Rattle.rule_maps.proofs.compiled.Compiled.corner.Goals as goal

pub numerators-wide-requires-clause-constants : goal.numerators-wide-requires-clause-constants
numerators-wide-requires-clause-constants c = (listed c.self.inside.rule.now.points c.args.k c.index.result.now c.index-as_slice-k.result c.self.invariant.rule.points.1 c.self.invariant.rule.area.1 c.self.invariant.area c.as_slice.ensures (subst (λ (g : Rule). c.args.k - 1 < length g.area) (sym c.self.view_is) (omega (arith, c.requires.first, c.requires.last))) c.index.ensures c.index-as_slice-k.is).small

pub returns-then-is_empty-clause-placed : goal.returns-then-is_empty-clause-placed
returns-then-is_empty-clause-placed c = subst (λ (g : Rule). IfSome c.put.result (λ p. p ≡ corner (record { frame = c.args.f.now; rule = g; mapped = c.args.mapped.now }) c.args.k c.args.class)) c.self.view_is
    (subst (λ (w : Point). IfSome c.put.result (λ p. p ≡ w)) (corner_alone (record { frame = c.args.f.now; rule = c.self.inside.rule.now; mapped = c.args.mapped.now }) c.args.k c.args.class c.index-as_slice-k.result c.numerators-wide.result.u c.numerators-wide.result.v c.put.ensures.frame c.requires.class_least (ap (λ (ls : List Place). length ls) (sym c.as_slice-limit.ensures) ∙ eqb-true (length c.as_slice-limit.result.now) 0 (sym c.is_empty.ensures ∙ c.if-is_empty.true)) (listed c.self.inside.rule.now.points c.args.k c.index.result.now c.index-as_slice-k.result c.self.invariant.rule.points.1 c.self.invariant.rule.area.1 c.self.invariant.area c.as_slice.ensures (subst (λ (g : Rule). c.args.k - 1 < length g.area) (sym c.self.view_is) (omega (arith, c.requires.first, c.requires.last))) c.index.ensures c.index-as_slice-k.is).place (record { u_is = c.numerators-wide.ensures.u ∙ ap (λ (d : PlaceConstants). numerator c.args.f.now c.args.mapped.now d.x c.index-as_slice-k.result.row_x) (listed c.self.inside.rule.now.points c.args.k c.index.result.now c.index-as_slice-k.result c.self.invariant.rule.points.1 c.self.invariant.rule.area.1 c.self.invariant.area c.as_slice.ensures (subst (λ (g : Rule). c.args.k - 1 < length g.area) (sym c.self.view_is) (omega (arith, c.requires.first, c.requires.last))) c.index.ensures c.index-as_slice-k.is).constants; v_is = c.numerators-wide.ensures.v ∙ ap (λ (d : PlaceConstants). numerator c.args.f.now c.args.mapped.now d.y c.index-as_slice-k.result.row_y) (listed c.self.inside.rule.now.points c.args.k c.index.result.now c.index-as_slice-k.result c.self.invariant.rule.points.1 c.self.invariant.rule.area.1 c.self.invariant.area c.as_slice.ensures (subst (λ (g : Rule). c.args.k - 1 < length g.area) (sym c.self.view_is) (omega (arith, c.requires.first, c.requires.last))) c.index.ensures c.index-as_slice-k.is).constants })) c.put.ensures.some)

pub returns-then-is_empty-clause-off : goal.returns-then-is_empty-clause-off
returns-then-is_empty-clause-off c = subst (λ (g : Rule). IfNone c.put.result (¬ IsOnGrid (corner (record { frame = c.args.f.now; rule = g; mapped = c.args.mapped.now }) c.args.k c.args.class))) c.self.view_is
    (subst (λ (w : Point). IfNone c.put.result (¬ IsOnGrid w)) (corner_alone (record { frame = c.args.f.now; rule = c.self.inside.rule.now; mapped = c.args.mapped.now }) c.args.k c.args.class c.index-as_slice-k.result c.numerators-wide.result.u c.numerators-wide.result.v c.put.ensures.frame c.requires.class_least (ap (λ (ls : List Place). length ls) (sym c.as_slice-limit.ensures) ∙ eqb-true (length c.as_slice-limit.result.now) 0 (sym c.is_empty.ensures ∙ c.if-is_empty.true)) (listed c.self.inside.rule.now.points c.args.k c.index.result.now c.index-as_slice-k.result c.self.invariant.rule.points.1 c.self.invariant.rule.area.1 c.self.invariant.area c.as_slice.ensures (subst (λ (g : Rule). c.args.k - 1 < length g.area) (sym c.self.view_is) (omega (arith, c.requires.first, c.requires.last))) c.index.ensures c.index-as_slice-k.is).place (record { u_is = c.numerators-wide.ensures.u ∙ ap (λ (d : PlaceConstants). numerator c.args.f.now c.args.mapped.now d.x c.index-as_slice-k.result.row_x) (listed c.self.inside.rule.now.points c.args.k c.index.result.now c.index-as_slice-k.result c.self.invariant.rule.points.1 c.self.invariant.rule.area.1 c.self.invariant.area c.as_slice.ensures (subst (λ (g : Rule). c.args.k - 1 < length g.area) (sym c.self.view_is) (omega (arith, c.requires.first, c.requires.last))) c.index.ensures c.index-as_slice-k.is).constants; v_is = c.numerators-wide.ensures.v ∙ ap (λ (d : PlaceConstants). numerator c.args.f.now c.args.mapped.now d.y c.index-as_slice-k.result.row_y) (listed c.self.inside.rule.now.points c.args.k c.index.result.now c.index-as_slice-k.result c.self.invariant.rule.points.1 c.self.invariant.rule.area.1 c.self.invariant.area c.as_slice.ensures (subst (λ (g : Rule). c.args.k - 1 < length g.area) (sym c.self.view_is) (omega (arith, c.requires.first, c.requires.last))) c.index.ensures c.index-as_slice-k.is).constants })) c.put.ensures.none)

pub numerators-narrow-requires-clause-constants : goal.numerators-narrow-requires-clause-constants
numerators-narrow-requires-clause-constants c = (listed c.self.inside.rule.now.points c.args.k c.index-2.result.now c.index-limit-k.result c.self.invariant.rule.points.1 c.self.invariant.rule.limit.1 c.self.invariant.limit c.as_slice-limit.ensures (subst (λ (n : ℕ). c.args.k - 1 < n) (sym (as_many c.self.inside.rule.now (subst (λ (g : Rule). ¬ HasBadZone g) (sym c.self.view_is) c.requires.live.good_zone) (λ e. clash _ (sym c.is_empty.ensures ∙ c.if-is_empty.false) (eq-eqb (length c.as_slice-limit.result.now) 0 (ap (λ (ls : List Place). length ls) c.as_slice-limit.ensures ∙ e))))) (subst (λ (g : Rule). c.args.k - 1 < length g.area) (sym c.self.view_is) (omega (arith, c.requires.first, c.requires.last)))) c.index-2.ensures c.index-limit-k.is).small

pub numerators-narrow-requires-clause-place : goal.numerators-narrow-requires-clause-place
numerators-narrow-requires-clause-place c = subst (λ (n : ℕ). IsPlace n c.index-limit-k.result) (sym (c.requires.count ∙ ap (λ (g : Rule). length g.points) (sym c.self.view_is))) (listed c.self.inside.rule.now.points c.args.k c.index-2.result.now c.index-limit-k.result c.self.invariant.rule.points.1 c.self.invariant.rule.limit.1 c.self.invariant.limit c.as_slice-limit.ensures (subst (λ (n : ℕ). c.args.k - 1 < n) (sym (as_many c.self.inside.rule.now (subst (λ (g : Rule). ¬ HasBadZone g) (sym c.self.view_is) c.requires.live.good_zone) (λ e. clash _ (sym c.is_empty.ensures ∙ c.if-is_empty.false) (eq-eqb (length c.as_slice-limit.result.now) 0 (ap (λ (ls : List Place). length ls) c.as_slice-limit.ensures ∙ e))))) (subst (λ (g : Rule). c.args.k - 1 < length g.area) (sym c.self.view_is) (omega (arith, c.requires.first, c.requires.last)))) c.index-2.ensures c.index-limit-k.is).good

pub returns-clause-placed : goal.returns-clause-placed
returns-clause-placed c = subst (λ (g : Rule). IfSome c.put-2.result (λ p. p ≡ corner (record { frame = c.args.f.now; rule = g; mapped = c.args.mapped.now }) c.args.k c.args.class)) c.self.view_is
    (subst (λ (w : Point). IfSome c.put-2.result (λ p. p ≡ w)) (corner_is (record { frame = c.args.f.now; rule = c.self.inside.rule.now; mapped = c.args.mapped.now }) c.args.k c.args.class c.index-as_slice-k.result c.index-limit-k.result c.put-2.ensures.frame c.requires.class_least (λ e. clash _ (sym c.is_empty.ensures ∙ c.if-is_empty.false) (eq-eqb (length c.as_slice-limit.result.now) 0 (ap (λ (ls : List Place). length ls) c.as_slice-limit.ensures ∙ e))) (listed c.self.inside.rule.now.points c.args.k c.index.result.now c.index-as_slice-k.result c.self.invariant.rule.points.1 c.self.invariant.rule.area.1 c.self.invariant.area c.as_slice.ensures (subst (λ (g : Rule). c.args.k - 1 < length g.area) (sym c.self.view_is) (omega (arith, c.requires.first, c.requires.last))) c.index.ensures c.index-as_slice-k.is).place (listed c.self.inside.rule.now.points c.args.k c.index-2.result.now c.index-limit-k.result c.self.invariant.rule.points.1 c.self.invariant.rule.limit.1 c.self.invariant.limit c.as_slice-limit.ensures (subst (λ (n : ℕ). c.args.k - 1 < n) (sym (as_many c.self.inside.rule.now (subst (λ (g : Rule). ¬ HasBadZone g) (sym c.self.view_is) c.requires.live.good_zone) (λ e. clash _ (sym c.is_empty.ensures ∙ c.if-is_empty.false) (eq-eqb (length c.as_slice-limit.result.now) 0 (ap (λ (ls : List Place). length ls) c.as_slice-limit.ensures ∙ e))))) (subst (λ (g : Rule). c.args.k - 1 < length g.area) (sym c.self.view_is) (omega (arith, c.requires.first, c.requires.last)))) c.index-2.ensures c.index-limit-k.is).place (record { u_is = c.numerators-wide.ensures.u ∙ ap (λ (d : PlaceConstants). numerator c.args.f.now c.args.mapped.now d.x c.index-as_slice-k.result.row_x) (listed c.self.inside.rule.now.points c.args.k c.index.result.now c.index-as_slice-k.result c.self.invariant.rule.points.1 c.self.invariant.rule.area.1 c.self.invariant.area c.as_slice.ensures (subst (λ (g : Rule). c.args.k - 1 < length g.area) (sym c.self.view_is) (omega (arith, c.requires.first, c.requires.last))) c.index.ensures c.index-as_slice-k.is).constants; v_is = c.numerators-wide.ensures.v ∙ ap (λ (d : PlaceConstants). numerator c.args.f.now c.args.mapped.now d.y c.index-as_slice-k.result.row_y) (listed c.self.inside.rule.now.points c.args.k c.index.result.now c.index-as_slice-k.result c.self.invariant.rule.points.1 c.self.invariant.rule.area.1 c.self.invariant.area c.as_slice.ensures (subst (λ (g : Rule). c.args.k - 1 < length g.area) (sym c.self.view_is) (omega (arith, c.requires.first, c.requires.last))) c.index.ensures c.index-as_slice-k.is).constants }) (record { u_is = c.numerators-narrow.ensures.u ∙ ap (λ (d : PlaceConstants). numerator c.args.f.now c.args.mapped.now d.x c.index-limit-k.result.row_x) (listed c.self.inside.rule.now.points c.args.k c.index-2.result.now c.index-limit-k.result c.self.invariant.rule.points.1 c.self.invariant.rule.limit.1 c.self.invariant.limit c.as_slice-limit.ensures (subst (λ (n : ℕ). c.args.k - 1 < n) (sym (as_many c.self.inside.rule.now (subst (λ (g : Rule). ¬ HasBadZone g) (sym c.self.view_is) c.requires.live.good_zone) (λ e. clash _ (sym c.is_empty.ensures ∙ c.if-is_empty.false) (eq-eqb (length c.as_slice-limit.result.now) 0 (ap (λ (ls : List Place). length ls) c.as_slice-limit.ensures ∙ e))))) (subst (λ (g : Rule). c.args.k - 1 < length g.area) (sym c.self.view_is) (omega (arith, c.requires.first, c.requires.last)))) c.index-2.ensures c.index-limit-k.is).constants; v_is = c.numerators-narrow.ensures.v ∙ ap (λ (d : PlaceConstants). numerator c.args.f.now c.args.mapped.now d.y c.index-limit-k.result.row_y) (listed c.self.inside.rule.now.points c.args.k c.index-2.result.now c.index-limit-k.result c.self.invariant.rule.points.1 c.self.invariant.rule.limit.1 c.self.invariant.limit c.as_slice-limit.ensures (subst (λ (n : ℕ). c.args.k - 1 < n) (sym (as_many c.self.inside.rule.now (subst (λ (g : Rule). ¬ HasBadZone g) (sym c.self.view_is) c.requires.live.good_zone) (λ e. clash _ (sym c.is_empty.ensures ∙ c.if-is_empty.false) (eq-eqb (length c.as_slice-limit.result.now) 0 (ap (λ (ls : List Place). length ls) c.as_slice-limit.ensures ∙ e))))) (subst (λ (g : Rule). c.args.k - 1 < length g.area) (sym c.self.view_is) (omega (arith, c.requires.first, c.requires.last)))) c.index-2.ensures c.index-limit-k.is).constants }) (record { u_is = c.mixed.ensures.u; v_is = c.mixed.ensures.v })) c.put-2.ensures.some)

pub returns-clause-off : goal.returns-clause-off
returns-clause-off c = subst (λ (g : Rule). IfNone c.put-2.result (¬ IsOnGrid (corner (record { frame = c.args.f.now; rule = g; mapped = c.args.mapped.now }) c.args.k c.args.class))) c.self.view_is
    (subst (λ (w : Point). IfNone c.put-2.result (¬ IsOnGrid w)) (corner_is (record { frame = c.args.f.now; rule = c.self.inside.rule.now; mapped = c.args.mapped.now }) c.args.k c.args.class c.index-as_slice-k.result c.index-limit-k.result c.put-2.ensures.frame c.requires.class_least (λ e. clash _ (sym c.is_empty.ensures ∙ c.if-is_empty.false) (eq-eqb (length c.as_slice-limit.result.now) 0 (ap (λ (ls : List Place). length ls) c.as_slice-limit.ensures ∙ e))) (listed c.self.inside.rule.now.points c.args.k c.index.result.now c.index-as_slice-k.result c.self.invariant.rule.points.1 c.self.invariant.rule.area.1 c.self.invariant.area c.as_slice.ensures (subst (λ (g : Rule). c.args.k - 1 < length g.area) (sym c.self.view_is) (omega (arith, c.requires.first, c.requires.last))) c.index.ensures c.index-as_slice-k.is).place (listed c.self.inside.rule.now.points c.args.k c.index-2.result.now c.index-limit-k.result c.self.invariant.rule.points.1 c.self.invariant.rule.limit.1 c.self.invariant.limit c.as_slice-limit.ensures (subst (λ (n : ℕ). c.args.k - 1 < n) (sym (as_many c.self.inside.rule.now (subst (λ (g : Rule). ¬ HasBadZone g) (sym c.self.view_is) c.requires.live.good_zone) (λ e. clash _ (sym c.is_empty.ensures ∙ c.if-is_empty.false) (eq-eqb (length c.as_slice-limit.result.now) 0 (ap (λ (ls : List Place). length ls) c.as_slice-limit.ensures ∙ e))))) (subst (λ (g : Rule). c.args.k - 1 < length g.area) (sym c.self.view_is) (omega (arith, c.requires.first, c.requires.last)))) c.index-2.ensures c.index-limit-k.is).place (record { u_is = c.numerators-wide.ensures.u ∙ ap (λ (d : PlaceConstants). numerator c.args.f.now c.args.mapped.now d.x c.index-as_slice-k.result.row_x) (listed c.self.inside.rule.now.points c.args.k c.index.result.now c.index-as_slice-k.result c.self.invariant.rule.points.1 c.self.invariant.rule.area.1 c.self.invariant.area c.as_slice.ensures (subst (λ (g : Rule). c.args.k - 1 < length g.area) (sym c.self.view_is) (omega (arith, c.requires.first, c.requires.last))) c.index.ensures c.index-as_slice-k.is).constants; v_is = c.numerators-wide.ensures.v ∙ ap (λ (d : PlaceConstants). numerator c.args.f.now c.args.mapped.now d.y c.index-as_slice-k.result.row_y) (listed c.self.inside.rule.now.points c.args.k c.index.result.now c.index-as_slice-k.result c.self.invariant.rule.points.1 c.self.invariant.rule.area.1 c.self.invariant.area c.as_slice.ensures (subst (λ (g : Rule). c.args.k - 1 < length g.area) (sym c.self.view_is) (omega (arith, c.requires.first, c.requires.last))) c.index.ensures c.index-as_slice-k.is).constants }) (record { u_is = c.numerators-narrow.ensures.u ∙ ap (λ (d : PlaceConstants). numerator c.args.f.now c.args.mapped.now d.x c.index-limit-k.result.row_x) (listed c.self.inside.rule.now.points c.args.k c.index-2.result.now c.index-limit-k.result c.self.invariant.rule.points.1 c.self.invariant.rule.limit.1 c.self.invariant.limit c.as_slice-limit.ensures (subst (λ (n : ℕ). c.args.k - 1 < n) (sym (as_many c.self.inside.rule.now (subst (λ (g : Rule). ¬ HasBadZone g) (sym c.self.view_is) c.requires.live.good_zone) (λ e. clash _ (sym c.is_empty.ensures ∙ c.if-is_empty.false) (eq-eqb (length c.as_slice-limit.result.now) 0 (ap (λ (ls : List Place). length ls) c.as_slice-limit.ensures ∙ e))))) (subst (λ (g : Rule). c.args.k - 1 < length g.area) (sym c.self.view_is) (omega (arith, c.requires.first, c.requires.last)))) c.index-2.ensures c.index-limit-k.is).constants; v_is = c.numerators-narrow.ensures.v ∙ ap (λ (d : PlaceConstants). numerator c.args.f.now c.args.mapped.now d.y c.index-limit-k.result.row_y) (listed c.self.inside.rule.now.points c.args.k c.index-2.result.now c.index-limit-k.result c.self.invariant.rule.points.1 c.self.invariant.rule.limit.1 c.self.invariant.limit c.as_slice-limit.ensures (subst (λ (n : ℕ). c.args.k - 1 < n) (sym (as_many c.self.inside.rule.now (subst (λ (g : Rule). ¬ HasBadZone g) (sym c.self.view_is) c.requires.live.good_zone) (λ e. clash _ (sym c.is_empty.ensures ∙ c.if-is_empty.false) (eq-eqb (length c.as_slice-limit.result.now) 0 (ap (λ (ls : List Place). length ls) c.as_slice-limit.ensures ∙ e))))) (subst (λ (g : Rule). c.args.k - 1 < length g.area) (sym c.self.view_is) (omega (arith, c.requires.first, c.requires.last)))) c.index-2.ensures c.index-limit-k.is).constants }) (record { u_is = c.mixed.ensures.u; v_is = c.mixed.ensures.v })) c.put-2.ensures.none)
