-- Lines that join or are touched, counted over applications one after another.
use Rattle.std.proofs.Common.{◌≡◌, ℕ, zero, suc, ◌+◌, ◌-◌, ◌*◌, ◌≤◌, List, [], ◌∷◌, ◌++◌, length, refl, sym, ap, ◌∙◌, subst, arith}
use Rattle.std.specs.Prelude.{sum}
use Rattle.std.proofs.lemmas.List.Sums.{sum_by_push}
use Rattle.state_law.specs.State.{State}
use Rattle.rule_match.specs.declared.application.Application.{Application}
use Rattle.mesh_run.specs.Steps.{RunSetting, applied, state_after}
use Rattle.mesh_run.specs.RunState.{RunState, setting_by}
use Rattle.mesh_run.specs.Trials.{AreBounded, AreChanged, DoesPayAll, IsChanged, RunView}

-- a number of lines and another one, together
pub times : (n j k : ℕ) → n * (j + k) ≡ n * j + n * k
times zero j k = omega arith
times (suc n) j k = let more = times n j k in omega (arith, more)

-- with one application more, its lines are counted last
pub changed_push : (s : RunSetting) (st : State) (more : List Application) (counts : List ℕ) (a : Application) (k : ℕ) → AreChanged s st more counts → IsChanged s (state_after st more) a k → AreChanged s st (more ++ a ∷ []) (counts ++ k ∷ [])
changed_push s st [] counts a k e c = subst (λ (ks : List ℕ). AreChanged s st (a ∷ []) (ks ++ k ∷ [])) (sym e) (c, refl)
changed_push s st (b ∷ more) [] a k h c = absurd h
changed_push s st (b ∷ more) (n ∷ counts) a k h c = (h.0, changed_push s (applied st b) more counts a k h.1 c)

pub sum_push : (counts : List ℕ) (k : ℕ) → sum (counts ++ k ∷ []) ≡ sum counts + k
sum_push counts k = sum_by_push (λ n. n) counts k

-- what is due of a run as opened, and its applications' lines, bound its trials
pub bounded : (opened : RunView) (after : RunState) (before tried : ℕ) → opened.run.applications ≡ [] → opened.due ≡ opened.run.basis.options.last * length opened.run.basis.lines
    → DoesPayAll opened.run after (before + opened.due) tried → AreBounded opened.run after (tried - before)
bounded opened after before tried none due h = record {
  lines = h.lines;
  changed = subst (λ (applications : List Application). AreChanged (setting_by opened.run.basis) opened.run.state applications h.lines) (sym all) h.changed;
  bounded = at_most opened.run.basis.options.last (length opened.run.basis.lines) (sum h.lines) opened.due due h.paid;
}
  where
    all : after.applications ≡ h.more
    all = h.applications ∙ ap (λ (applications : List Application). applications ++ h.more) none

    at_most : (last n k due : ℕ) → due ≡ last * n → tried ≤ before + due + last * k → tried - before ≤ last * (n + k)
    at_most last n k due e l = let sum_is = times last n k in omega (arith, e, l, sum_is)
