use native.Mathlib.Omega.{arith}
use Rattle.std.proofs.Common.{◌∙◌, sym, ap, subst, ◌<◌, ◌≤◌, length, List}
use Rattle.std.specs.List.{All}
use Rattle.std.specs.Prelude.{IfNone}
use Rattle.std.proofs.lemmas.List.Elements.{All-push}
use Rattle.grid_geom.specs.Bounds.{IsOnGrid}
use Rattle.rule_reader.specs.declared.rule.Rule.{Rule}
use Rattle.rule_reader.specs.declared.rule.Place.{Place}
use Rattle.rule_maps.specs.Places.{mapping}
use Rattle.free_zone.specs.Zone.{zone_of}
use Rattle.free_zone.proofs.InTurn.{pushed, whole_list, one_off}
use Rattle.free_zone.proofs.zone.corners_of.Goals as goal

pub returns-in_err-corner-clause-off : goal.returns-in_err-corner-clause-off
returns-in_err-corner-clause-off c = subst (λ o. IfNone o (¬ (All IsOnGrid (zone_of (mapping c.args.f.now c.args.c.now c.args.mapped.now) c.args.class)))) (sym c.from_residual.ensures)
    (one_off (mapping c.args.f.now c.args.c.now c.args.mapped.now) c.args.class c.loop-k.k
    (subst (λ (ps : List Place). c.loop-k.k < length ps) (c.as_slice-area.ensures ∙ ap (λ (r : Rule). r.area) c.rule.ensures.value) c.loop-k-test.true) c.in_err-corner.ensures.off)

pub loop-k-preserved : goal.loop-k-preserved
loop-k-preserved c = (
  pushed (mapping c.args.f.now c.args.c.now c.args.mapped.now) c.args.class c.loop-k.k c.loop-k.corners.items c.push_reserved.new.self.items c.in_ok-corner.field-0
      (subst (λ (ps : List Place). c.loop-k.k < length ps) (c.as_slice-area.ensures ∙ ap (λ (r : Rule). r.area) c.rule.ensures.value) c.loop-k-test.true) c.loop-k.invariant.0 c.push_reserved.ensures.items c.in_ok-corner.ensures.placed,
  c.push_reserved.ensures.capacity ∙ c.loop-k.invariant.1,
  subst (All IsOnGrid) (sym c.push_reserved.ensures.items) (All-push IsOnGrid c.loop-k.corners.items c.in_ok-corner.field-0 c.loop-k.invariant.2 c.in_ok-corner.ensures.on),
)

pub returns-clause-corners : goal.returns-clause-corners
returns-clause-corners c = whole_list (mapping c.args.f.now c.args.c.now c.args.mapped.now) c.args.class c.loop-k.k c.loop-k.corners.items
    (subst (λ (ps : List Place). length ps ≤ c.loop-k.k) (c.as_slice-area.ensures ∙ ap (λ (r : Rule). r.area) c.rule.ensures.value) (omega (arith, c.loop-k-test.false))) c.loop-k.invariant.0
