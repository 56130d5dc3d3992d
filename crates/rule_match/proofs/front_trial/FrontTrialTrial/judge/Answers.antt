use Rattle.std.proofs.Common.{◌≡◌, ◌∙◌, sym, ap}
use mathlib.Core.Bool.{true, false, true≢false}
use Rattle.std.specs.Prelude.{◌↔◌, IsTrue}
use Rattle.state_law.specs.State.{front_edges}
use Rattle.state_law.specs.Gluing.{MayAllBeGlued}
use Rattle.front_chain.specs.Front.{state_of}
use Rattle.rule_match.specs.Candidate.{elements, IsCandidate}
use Rattle.rule_match.specs.Base.{BaseLine, numbers_at, attempt_of}
use Rattle.rule_match.proofs.Advances.{begins_chain}
use Rattle.rule_match.proofs.Judged.{candidate_of, if_ok, on_ok}
use Rattle.rule_match.proofs.Places.{allowed}
use Rattle.rule_match.proofs.Excused.{way_excused, way_refutes, zone_free, zone_needed}
use Rattle.rule_match.proofs.front_trial.FrontTrialTrial.judge.Goals as goal

pub returns-in_default-clause-reason : goal.returns-in_default-clause-reason
returns-in_default-clause-reason c = λ no. c.in_default.ensures.excused c.args.notes.now.items

pub returns-in_default-zone-clause-not_held : goal.returns-in_default-zone-clause-not_held
returns-in_default-zone-clause-not_held c = λ no k. zone_needed c.args.self.now c.args.chosen.now c.as_slice-2.result.now (c.as_slice-2.ensures ∙ c.mapped-mapped.ensures.value) c.in_default-zone.ensures.none
    (allowed (state_of c.args.self.now.base.front) (attempt_of c.args.self.now c.args.chosen.now) k)

pub returns-in_default-zone-clause-reason : goal.returns-in_default-zone-clause-reason
returns-in_default-zone-clause-reason c = λ no noting k. absurd (zone_needed c.args.self.now c.args.chosen.now c.as_slice-2.result.now (c.as_slice-2.ensures ∙ c.mapped-mapped.ensures.value) c.in_default-zone.ensures.none k)

pub returns-then-not-branch-clause-not_held : goal.returns-then-not-branch-clause-not_held
returns-then-not-branch-clause-not_held c = λ no. way_refutes c.args.self.now c.mapped-mapped.ensures.trying c.args.chosen.now c.requires.complete c.requires.fits c.as_slice-2.result.now c.in-Some-zone.zone c.as_slice-3.result.now c.has_free_zone.new.notes.items
    (c.as_slice-2.ensures ∙ c.mapped-mapped.ensures.value) c.in-Some-zone.ensures.zone (c.as_slice-3.ensures ∙ c.numbers-numbers.ensures ∙ ap (λ (b : BaseLine). numbers_at b.near c.args.chosen.now) c.base.ensures.value)
    (c.in_ok-has_free_zone.ensures.in_way c.if-not-branch.true)

pub returns-then-not-branch-clause-reason : goal.returns-then-not-branch-clause-reason
returns-then-not-branch-clause-reason c = λ no. way_excused c.args.self.now c.mapped-mapped.ensures.trying c.args.chosen.now c.requires.complete c.requires.fits c.as_slice-2.result.now c.in-Some-zone.zone c.as_slice-3.result.now c.has_free_zone.new.notes.items
    (c.as_slice-2.ensures ∙ c.mapped-mapped.ensures.value) c.in-Some-zone.ensures.zone (c.as_slice-3.ensures ∙ c.numbers-numbers.ensures ∙ ap (λ (b : BaseLine). numbers_at b.near c.args.chosen.now) c.base.ensures.value)
    (c.in_ok-has_free_zone.ensures.in_way c.if-not-branch.true)

pub returns-clause-notes : goal.returns-clause-notes
returns-clause-notes c = on_ok _ _ c.may_glue.result (λ later. begins_chain c.may_glue.new.notes.items c.has_free_zone.new.notes.items c.args.notes.now.items later c.in_ok-has_free_zone.ensures.kept) c.may_glue.ensures.kept

pub returns-clause-held : goal.returns-clause-held
returns-clause-held c = if_ok (λ yes. IsTrue yes ↔ MayAllBeGlued (elements (state_of c.args.self.now.base.front) (attempt_of c.args.self.now c.args.chosen.now)) (front_edges c.args.self.now.base.front.points c.args.self.now.base.front.lines))
    (λ yes. yes ≡ true → IsCandidate (state_of c.args.self.now.base.front) (attempt_of c.args.self.now c.args.chosen.now)) c.may_glue.result
    (λ yes is e. candidate_of c.args.self.now c.args.chosen.now c.in-Some.made c.as_slice-2.result.now c.as_slice-3.result.now c.mapped-mapped.ensures.trying c.requires.complete c.requires.fits c.in-Some.ensures.made
    (c.as_slice-2.ensures ∙ c.mapped-mapped.ensures.value) (c.as_slice-3.ensures ∙ c.numbers-numbers.ensures ∙ ap (λ (b : BaseLine). numbers_at b.near c.args.chosen.now) c.base.ensures.value)
    (zone_free c.args.self.now c.mapped-mapped.ensures.trying c.args.chosen.now c.requires.complete c.requires.fits c.as_slice-2.result.now c.in-Some-zone.zone c.as_slice-3.result.now c.in-Some-zone.ensures.zone
    (c.as_slice-3.ensures ∙ c.numbers-numbers.ensures ∙ ap (λ (b : BaseLine). numbers_at b.near c.args.chosen.now) c.base.ensures.value) c.in-Some-zone.ensures.is_zone (c.in_ok-has_free_zone.ensures.free c.if-not-branch.false)) (is.0 e)) c.may_glue.ensures.may

pub returns-clause-not_held : goal.returns-clause-not_held
returns-clause-not_held c = if_ok (λ yes. IsTrue yes ↔ MayAllBeGlued (elements (state_of c.args.self.now.base.front) (attempt_of c.args.self.now c.args.chosen.now)) (front_edges c.args.self.now.base.front.points c.args.self.now.base.front.lines))
    (λ yes. yes ≡ false → IsCandidate (state_of c.args.self.now.base.front) (attempt_of c.args.self.now c.args.chosen.now) → ⊥) c.may_glue.result
    (λ yes is e k. absurd (true≢false (sym (is.1 k.glued) ∙ e))) c.may_glue.ensures.may
