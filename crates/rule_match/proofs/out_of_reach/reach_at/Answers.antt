use Rattle.std.proofs.Common.{subst, Some}
use Rattle.rule_reader.specs.declared.rule.Rule.{Rule}
use Rattle.rule_maps.specs.declared.inert.Inert.{Inert}
use Rattle.rule_maps.specs.declared.inert.Inert.TheVariants.{Unbalanced, BaseKept, NoElement, IdlePoint, BadZone}
use Rattle.rule_maps.specs.Inert.{HasState, IsLive}
use Rattle.rule_match.proofs.out_of_reach.reach_at.Goals as goal

-- a rule with a reason never to apply is not live
not_live : (r : Rule) (why : Inert) → HasState r (Some why) → ¬ IsLive r
not_live r Unbalanced has live = has live.balanced
not_live r BaseKept has live = live.base_leaves has.1
not_live r NoElement has live = live.some_element has.2
not_live r IdlePoint has live = live.none_idle has.3
not_live r BadZone has live = live.good_zone has.4

-- so it has no allowed attempt
pub returns-in-Some-clause-covers : goal.returns-in-Some-clause-covers
returns-in-Some-clause-covers c =
    let never : ¬ IsLive c.args.compiled.now = not_live c.args.compiled.now c.in-Some.field-0 c.in-Some.ensures in
    record {
      rule = c.rule-rule.ensures.rule;
      mapped_in = λ st t e a frame last. absurd (never (subst IsLive e a.live));
      within = λ st t e a frame first last. absurd (never (subst IsLive e a.live));
    }
