use native.Mathlib.Omega.{arith}
use Rattle.std.proofs.Common.{◌∙◌, sym, ap, subst, ◌<◌, ◌≤◌, length, List}
use Rattle.std.specs.List.{All}
use Rattle.std.specs.Prelude.{IfNone}
use Rattle.std.proofs.lemmas.List.Elements.{All-push}
use Rattle.grid_geom.specs.Bounds.{IsOnGrid}
use Rattle.rule_reader.specs.declared.rule.Rule.{Rule}
use Rattle.rule_reader.specs.declared.rule.Place.{Place}
use Rattle.rule_maps.specs.Places.{mapping}
use Rattle.rule_match.specs.Candidate.{made_of}
use Rattle.rule_match.proofs.NewParts.{pushed, whole_list, one_off}
use Rattle.rule_match.proofs.making.made_points.Goals as goal

pub returns-in_err-new_point-clause-off : goal.returns-in_err-new_point-clause-off
returns-in_err-new_point-clause-off c = subst (λ o. IfNone o (¬ (All IsOnGrid (made_of (mapping c.args.frame.now c.args.rule.now c.args.mapped.now))))) (sym c.from_residual.ensures)
    (one_off (mapping c.args.frame.now c.args.rule.now c.args.mapped.now) c.loop-k.k
    (subst (λ (ps : List Place). c.loop-k.k < length ps) (c.as_slice-count.ensures ∙ ap (λ (r : Rule). r.new_points) c.rule.ensures.value) c.loop-k-test.true) c.in_err-new_point.ensures.off)

pub loop-k-preserved : goal.loop-k-preserved
loop-k-preserved c = (
  pushed (mapping c.args.frame.now c.args.rule.now c.args.mapped.now) c.loop-k.k c.loop-k.made c.push.new.self c.in_ok-new_point.field-0
      (subst (λ (ps : List Place). c.loop-k.k < length ps) (c.as_slice-count.ensures ∙ ap (λ (r : Rule). r.new_points) c.rule.ensures.value) c.loop-k-test.true) c.loop-k.invariant.0 c.push.ensures c.in_ok-new_point.ensures.placed,
  subst (All IsOnGrid) (sym c.push.ensures) (All-push IsOnGrid c.loop-k.made c.in_ok-new_point.field-0 c.loop-k.invariant.1 c.in_ok-new_point.ensures.on),
)

pub returns-clause-made : goal.returns-clause-made
returns-clause-made c = whole_list (mapping c.args.frame.now c.args.rule.now c.args.mapped.now) c.loop-k.k c.loop-k.made
    (subst (λ (ps : List Place). length ps ≤ c.loop-k.k) (c.as_slice-count.ensures ∙ ap (λ (r : Rule). r.new_points) c.rule.ensures.value) (omega (arith, c.loop-k-test.false))) c.loop-k.invariant.0
