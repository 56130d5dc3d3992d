use Rattle.std.proofs.Common.{◌≡◌, ℕ, List, subst, sym, ap, ◌∙◌}
use Rattle.std.proofs.lemmas.List.Elements.{All-from_recursion}
use Rattle.rule_reader.specs.declared.rule.MapPoint.{MapPoint}
use Rattle.rule_reader.specs.declared.rule.Rule.{Rule}
use Rattle.rule_maps.specs.declared.reach.Leeway.{Leeway}
use Rattle.rule_maps.specs.Reach.{IsLeeway}
use Rattle.rule_match.specs.Leeways.{AreLeewaysAt}
use Rattle.rule_match.proofs.CoversAt.{covered_by_leeways, least_by_leeways}
use Rattle.rule_match.proofs.Tolerated.{all_leeways, same_count}
use Rattle.rule_match.proofs.out_of_reach.reach_of_live.Goals as goal

-- the leeways of the rule's points
moved : (class : ℕ) (ps qs : List MapPoint) (ws vs : List Leeway) → ps ≡ qs → vs ≡ ws → AreLeewaysAt class ps ws → AreLeewaysAt class qs vs
moved class ps qs ws vs e f h = subst (λ (us : List Leeway). AreLeewaysAt class qs us) (sym f) (subst (λ (os : List MapPoint). AreLeewaysAt class os ws) e h)

pub reach_by-requires-clause-count : goal.reach_by-requires-clause-count
reach_by-requires-clause-count c = same_count c.args.class c.args.compiled.now.points c.deref.result.now
    (moved c.args.class c.as_slice.result.now c.args.compiled.now.points c.in_ok-leeways.leeways.items c.deref.result.now (c.as_slice.ensures ∙ ap (λ (r : Rule). r.points) c.rule-rule.ensures.value) c.deref.ensures.value c.in_ok-leeways.ensures)

pub reach_by-requires-clause-leeways : goal.reach_by-requires-clause-leeways
reach_by-requires-clause-leeways c = All-from_recursion IsLeeway c.deref.result.now (all_leeways c.args.class c.args.compiled.now.points c.deref.result.now c.rule-rule.ensures.rule.points.1
    (moved c.args.class c.as_slice.result.now c.args.compiled.now.points c.in_ok-leeways.leeways.items c.deref.result.now (c.as_slice.ensures ∙ ap (λ (r : Rule). r.points) c.rule-rule.ensures.value) c.deref.ensures.value c.in_ok-leeways.ensures))

pub returns-clause-covers : goal.returns-clause-covers
returns-clause-covers c = covered_by_leeways c.args.class c.reach_by.result c.args.compiled.now c.deref.result.now c.rule-rule.ensures.rule
    (moved c.args.class c.as_slice.result.now c.args.compiled.now.points c.in_ok-leeways.leeways.items c.deref.result.now (c.as_slice.ensures ∙ ap (λ (r : Rule). r.points) c.rule-rule.ensures.value) c.deref.ensures.value c.in_ok-leeways.ensures)
    c.reach_by.ensures.covers

pub returns-clause-no_greater : goal.returns-clause-no_greater
returns-clause-no_greater c = λ m k. least_by_leeways c.args.class c.reach_by.result m c.args.compiled.now c.deref.result.now
    (moved c.args.class c.as_slice.result.now c.args.compiled.now.points c.in_ok-leeways.leeways.items c.deref.result.now (c.as_slice.ensures ∙ ap (λ (r : Rule). r.points) c.rule-rule.ensures.value) c.deref.ensures.value c.in_ok-leeways.ensures)
    c.reach_by.ensures c.requires k
