use Rattle.std.proofs.Common.{◌∙◌, sym, ap}
use mathlib.Core.Bool.{true≢false}
use Rattle.front_chain.specs.Front.{FrontState}
use Rattle.rule_match.specs.Applied.{are_new}
use Rattle.rule_match.proofs.Judged.{made_told, candidate_new, candidate_differ}
use Rattle.rule_match.proofs.Excused.{allowed_differ, taken_excused}
use Rattle.rule_match.proofs.front_trial.FrontTrial.made.Goals as goal
use Rattle.rule_match.proofs.front_trial.FrontTrial.made.Goals.{else-are_new-via-then-are_new+else-are_different, else-are_new-via-else-are_new}

pub returns-else-are_new-clause-none : goal.returns-else-are_new-clause-none
returns-else-are_new-clause-none c k = elim c.else-are_new.branch [
  | else-are_new-via-then-are_new+else-are_different w ↦ absurd (true≢false (sym (candidate_differ c.args.self.now c.args.chosen.now w.as_slice-then-are_new.result.now
      (w.as_slice-then-are_new.ensures ∙ made_told c.args.self.now c.args.chosen.now c.base.result.now c.frame.result.now c.rule.result.now c.args.mapped.now c.in_ok-made.made c.base.ensures.value c.frame.ensures.value c.rule.ensures.value c.requires.mapped c.in_ok-made.ensures.made) k)
      ∙ sym w.are_different.ensures ∙ w.if-are_different.false))
  | else-are_new-via-else-are_new w ↦ absurd (true≢false (sym (candidate_new c.args.self.now c.args.chosen.now c.as_slice.result.now
      (c.as_slice.ensures ∙ made_told c.args.self.now c.args.chosen.now c.base.result.now c.frame.result.now c.rule.result.now c.args.mapped.now c.in_ok-made.made c.base.ensures.value c.frame.ensures.value c.rule.ensures.value c.requires.mapped c.in_ok-made.ensures.made) k)
      ∙ ap (λ (f : FrontState). are_new f.points c.as_slice.result.now) (sym c.front.ensures.value) ∙ sym c.are_new.ensures ∙ w.if-are_new.false))
]

pub returns-else-are_new-clause-excused : goal.returns-else-are_new-clause-excused
returns-else-are_new-clause-excused c = elim c.else-are_new.branch [
  | else-are_new-via-then-are_new+else-are_different w ↦ λ notes noting allowed. absurd (true≢false (sym (allowed_differ c.args.self.now c.args.chosen.now w.as_slice-then-are_new.result.now
      (w.as_slice-then-are_new.ensures ∙ made_told c.args.self.now c.args.chosen.now c.base.result.now c.frame.result.now c.rule.result.now c.args.mapped.now c.in_ok-made.made c.base.ensures.value c.frame.ensures.value c.rule.ensures.value c.requires.mapped c.in_ok-made.ensures.made) allowed)
      ∙ sym w.are_different.ensures ∙ w.if-are_different.false))
  | else-are_new-via-else-are_new w ↦ λ notes. taken_excused c.args.self.now c.args.chosen.now c.as_slice.result.now
      (c.as_slice.ensures ∙ made_told c.args.self.now c.args.chosen.now c.base.result.now c.frame.result.now c.rule.result.now c.args.mapped.now c.in_ok-made.made c.base.ensures.value c.frame.ensures.value c.rule.ensures.value c.requires.mapped c.in_ok-made.ensures.made)
      (ap (λ (f : FrontState). are_new f.points c.as_slice.result.now) (sym c.front.ensures.value) ∙ sym c.are_new.ensures ∙ w.if-are_new.false) notes
]
