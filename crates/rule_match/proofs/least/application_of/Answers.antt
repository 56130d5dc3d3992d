use Rattle.std.proofs.Common.{◌≡◌, ◌++◌, map, length, refl, sym, ap, ◌∙◌, subst}
use Rattle.std.specs.List.{All}
use Rattle.std.specs.Prelude.{IfNone, IfSome}
use Rattle.grid_geom.specs.Bounds.{IsOnGrid}
use Rattle.rule_reader.specs.declared.rule.Rule.{Rule}
use Rattle.rule_maps.specs.Frame.{LocalFrame, IsInRange}
use Rattle.rule_maps.specs.Places.{Mapping, mapping}
use Rattle.state_law.specs.State.{corners_of}
use Rattle.front_chain.specs.Front.{FrontState}
use Rattle.rule_match.specs.Applied.{numbers_from}
use Rattle.rule_match.specs.Candidate.{made_of, nth}
use Rattle.rule_match.proofs.FoundParts.{HasParts, parts_of, points_in_range, some_made, application_is}
use Rattle.rule_match.proofs.least.application_of.Goals as goal

pub made_points-requires-clause-range : goal.made_points-requires-clause-range
made_points-requires-clause-range c =
    let b = c.args.base.now in let found = c.args.found.now in let rule = c.get-rule.result.now in let t = c.requires.attempt in
    let parts : HasParts b found rule t = parts_of b c.args.rules.now found rule t c.requires.on c.requires.is c.get-rule.ensures in
    let mapped : c.as_slice.result.now ≡ corners_of b.front.points found.points = c.as_slice.ensures ∙ c.places_of-mapped.ensures ∙ (λ i. corners_of (c.front-front.ensures.value i).points (c.as_slice-points.ensures i)) in
    subst (λ (f : LocalFrame). All (IsInRange f) c.as_slice.result.now) (sym c.frame.ensures.value)
    (subst (All (IsInRange b.frame)) (sym mapped) (points_in_range b c.args.rules.now found rule t parts c.requires.on c.requires.candidate))

pub unwrap-made-requires : goal.unwrap-made-requires
unwrap-made-requires c =
    let b = c.args.base.now in let found = c.args.found.now in let rule = c.get-rule.result.now in let t = c.requires.attempt in
    let parts : HasParts b found rule t = parts_of b c.args.rules.now found rule t c.requires.on c.requires.is c.get-rule.ensures in
    let mapped : c.as_slice.result.now ≡ corners_of b.front.points found.points = c.as_slice.ensures ∙ c.places_of-mapped.ensures ∙ (λ i. corners_of (c.front-front.ensures.value i).points (c.as_slice-points.ensures i)) in
    let same : mapping c.frame.result.now rule c.as_slice.result.now ≡ mapping b.frame rule (corners_of b.front.points found.points) = λ i. mapping (c.frame.ensures.value i) rule (mapped i) in
    some_made b found rule t c.made_points.result parts c.requires.candidate (subst (λ (m : Mapping). IfNone c.made_points.result (¬ (All IsOnGrid (made_of m)))) same c.made_points.ensures.off)

pub returns : goal.returns
returns c =
    let b = c.args.base.now in let found = c.args.found.now in let rule = c.get-rule.result.now in
    let mapped : c.as_slice.result.now ≡ corners_of b.front.points found.points = c.as_slice.ensures ∙ c.places_of-mapped.ensures ∙ (λ i. corners_of (c.front-front.ensures.value i).points (c.as_slice-points.ensures i)) in
    let same : mapping c.frame.result.now rule c.as_slice.result.now ≡ mapping b.frame rule (corners_of b.front.points found.points) = λ i. mapping (c.frame.ensures.value i) rule (mapped i) in
    let made : c.unwrap-made.result ≡ made_of (mapping b.frame rule (corners_of b.front.points found.points)) =
    subst (λ o. IfSome o (λ v. v ≡ made_of (mapping c.frame.result.now rule c.as_slice.result.now))) c.unwrap-made.ensures c.made_points.ensures.made ∙ ap made_of same in
    let listed : c.points.result ≡ length b.front.points = c.points.ensures.count ∙ ap (λ (f : FrontState). length f.points) c.front-front.ensures.value in
    let made_again : c.from_vec-2.result ≡ c.unwrap-made.result = c.from_vec-2.ensures ∙ c.in_ok-to_vec-2.ensures.items_if_clones_equal (λ x y same. same) ∙ c.as_slice-4.ensures in
    λ t on candidate is.
    application_is b c.args.rules.now found rule t
    (record { class = c.class.result; line = c.line.result; rule = found.rule; points = c.from_vec.result; made = c.from_vec-2.result; elements = c.from_vec-3.result })
    (parts_of b c.args.rules.now found rule t on is c.get-rule.ensures) on
    (record {
      class = c.class.ensures;
      line = c.line.ensures;
      rule_number = refl;
      points = c.from_vec.ensures ∙ c.in_ok-to_vec.ensures.items_if_clones_equal (λ x y same. same) ∙ c.as_slice-points.ensures;
      made = made_again ∙ made;
      elements = c.from_vec-3.ensures ∙ c.in_ok-elements.ensures
          ∙ (λ i. map (map (nth (c.deref.ensures.value i))) c.as_slice-3.result.now)
          ∙ (λ i. map (map (nth (c.in_ok-numbers.ensures i))) ((c.as_slice-3.ensures ∙ ap (λ (r : Rule). r.elements) c.rule-text.ensures.value) i))
          ∙ (λ i. map (map (nth (c.as_slice-points.ensures i ++ numbers_from (listed i) ((c.as_slice-2.ensures ∙ sym made_again) i)))) rule.elements);
    })
