use Rattle.std.proofs.Common.{subst, sym, ap, ◌≡◌, ◌++◌, length, List, ℕ, ◌∙◌, refl}
use Rattle.std.specs.List.{All, IsDistinct}
use Rattle.grid_geom.specs.Closed.{same_point}
use Rattle.front_chain.specs.Front.{FrontState, state_of}
use Rattle.state_law.specs.State.{front_edges}
use Rattle.state_law.specs.Gluing.{MayAllBeGlued}
use Rattle.rule_match.specs.Candidate.{elements}
use Rattle.admission.specs.Around.{AreListed}
use Rattle.admission.specs.Admission.{entered, MayFollow}
use Rattle.rule_match.specs.Base.{elements_by, numbers_at, attempt_of}
use Rattle.rule_match.proofs.Judged.{ready_distinct, ready_three, ready_listed, ready_is, refused_told}
use Rattle.rule_match.proofs.Excused.{refused_excused}
use Rattle.rule_match.proofs.front_trial.FrontTrial.may_glue.Goals as goal

pub admit-requires-clause-new_places : goal.admit-requires-clause-new_places
admit-requires-clause-new_places c = subst (λ (f : FrontState). IsDistinct same_point (f.points ++ c.args.placed.now)) (sym c.front.ensures.value)
    (ready_distinct c.args.self.now c.args.chosen.now c.args.placed.now c.front.ensures.trying c.requires.complete c.requires.fits c.requires.placed)

pub admit-requires-clause-three : goal.admit-requires-clause-three
admit-requires-clause-three c = subst (All (λ (e : List ℕ). length e ≡ 3)) (sym (c.as_slice.ensures.value ∙ c.in_ok-elements.ensures ∙ ap (λ (ns : List ℕ). elements_by c.args.self.now ns c.args.placed.now) c.requires.numbers))
    (ready_three c.args.self.now c.args.chosen.now c.args.placed.now c.front.ensures.trying c.requires.complete c.requires.fits c.requires.placed)

pub admit-requires-clause-listed : goal.admit-requires-clause-listed
admit-requires-clause-listed c = subst (All (AreListed (length (c.front.result.now.points ++ c.args.placed.now)))) (sym (c.as_slice.ensures.value ∙ c.in_ok-elements.ensures ∙ ap (λ (ns : List ℕ). elements_by c.args.self.now ns c.args.placed.now) c.requires.numbers))
    (subst (λ (f : FrontState). All (AreListed (length (f.points ++ c.args.placed.now))) (elements_by c.args.self.now (numbers_at c.args.self.now.base.near c.args.chosen.now) c.args.placed.now)) (sym c.front.ensures.value)
    (ready_listed c.args.self.now c.args.chosen.now c.args.placed.now c.front.ensures.trying c.requires.complete c.requires.fits c.requires.placed))

pub returns-in-Ok-clause-may : goal.returns-in-Ok-clause-may
returns-in-Ok-clause-may c = (
  λ h. (ready_is c.args.self.now c.args.chosen.now c.args.placed.now c.front.ensures.trying c.requires.complete c.requires.fits c.requires.placed).0
      (subst (λ (f : FrontState). MayFollow (entered f c.args.placed.now) (elements_by c.args.self.now (numbers_at c.args.self.now.base.near c.args.chosen.now) c.args.placed.now)) c.front.ensures.value
      (subst (MayFollow (entered c.front.result.now c.args.placed.now)) (c.as_slice.ensures.value ∙ c.in_ok-elements.ensures ∙ ap (λ (ns : List ℕ). elements_by c.args.self.now ns c.args.placed.now) c.requires.numbers) c.in-Ok.ensures.may)),
  λ m. refl,
)

pub returns-clause-may : goal.returns-clause-may
returns-clause-may c = refused_told (MayAllBeGlued (elements (state_of c.args.self.now.base.front) (attempt_of c.args.self.now c.args.chosen.now)) (front_edges c.args.self.now.base.front.points c.args.self.now.base.front.lines)) c.args.self.now.base.front c.front.result.now c.args.placed.now c.as_slice.result.now (elements_by c.args.self.now (numbers_at c.args.self.now.base.near c.args.chosen.now) c.args.placed.now) c.in-Err.refusal
    (ready_is c.args.self.now c.args.chosen.now c.args.placed.now c.front.ensures.trying c.requires.complete c.requires.fits c.requires.placed)
    (c.is_memory.ensures.other c.if-is_memory.false) c.in-Err.ensures.refused c.front.ensures.value (c.as_slice.ensures.value ∙ c.in_ok-elements.ensures ∙ ap (λ (ns : List ℕ). elements_by c.args.self.now ns c.args.placed.now) c.requires.numbers)

pub returns-clause-excused : goal.returns-clause-excused
returns-clause-excused c = λ no. refused_excused c.args.self.now c.front.ensures.trying c.args.chosen.now c.requires.complete c.requires.fits c.args.placed.now c.requires.placed c.base.result.now c.front.result.now c.as_slice.result.now c.args.numbers.now c.in-Err.refusal c.note_refusal.new.notes.items
    c.base.ensures.value c.front.ensures.value (c.as_slice.ensures.value ∙ c.in_ok-elements.ensures ∙ ap (λ (ns : List ℕ). elements_by c.args.self.now ns c.args.placed.now) c.requires.numbers) c.requires.numbers
    c.in-Err.ensures.refused (c.is_memory.ensures.other c.if-is_memory.false) c.in_ok-note_refusal-in-Err.ensures.noted
