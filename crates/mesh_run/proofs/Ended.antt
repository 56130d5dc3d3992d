-- How runs end: Done where no front is left; and where no limit is given, else Stuck, and nothing applies where a front is left.
use Rattle.std.proofs.Common.{◌≡◌, ◌≢◌, ℕ, Bool, true, false, ◌||◌, List, [], ◌∷◌, length, Option, None, Some, refl, sym, ap, ◌∙◌, subst, true≢false, if◌then◌else◌}
use Rattle.std.specs.Prelude.{◌↔◌}
use Rattle.std.specs.List.{All, AllByRecursion, AllZip, list_any}
use Rattle.std.proofs.lemmas.List.Elements.{All-from_recursion, recursion_from_All}
use Rattle.geom_check.specs.Domains.{domain_numbers}
use Rattle.geom_check.specs.Geometry.{PlanarMap}
use Rattle.state_law.specs.State.{State}
use Rattle.state_law.proofs.Lists.{all_both, all_map}
use Rattle.rule_reader.specs.declared.rule.Rule.{Rule}
use Rattle.mesh_run.specs.declared.End.{End}
use Rattle.mesh_run.specs.declared.End.TheVariants.{Done, Stuck, Stopped}
use Rattle.mesh_run.specs.declared.Options.{Options}
use Rattle.mesh_run.specs.declared.WholeRun.{WholeRun}
use Rattle.mesh_run.specs.declared.domain_run.DomainRun.{DomainRun}
use Rattle.mesh_run.specs.Runs.{opening_of, setting_of, IsDomainRun, IsWholeRun}
use Rattle.mesh_run.specs.Steps.{RunSetting, NothingApplies, IsEndOf, state_after}
use Rattle.mesh_run.specs.Whole.{end_of_all, is_stopped, is_stuck}
use Rattle.mesh_run.proofs.OneRun.{some_line}

-- ---- of one domain
empty_done : (s : RunSetting) (limit : Option ℕ) (st : State) (made : ℕ) (e : End) → IsEndOf s limit st made e → st.front ≡ [] → e ≡ Done
empty_done s limit st made Done h k = refl
empty_done s limit st made Stuck h k = absurd (h.0 k)
empty_done s limit st made Stopped h k = absurd (some_line s st h.0.application h.0.next k)

pub done_is_empty : (g : PlanarMap) (rules : List Rule) (options : Options) (d : ℕ) (r : DomainRun) → IsDomainRun g rules options d r → (r.end ≡ Done) ↔ (r.front ≡ [])
done_is_empty g rules options d r h =
    let s = setting_of g rules options d in let last = state_after (opening_of g options d) r.applications in
    ((λ e. h.front ∙ subst (IsEndOf s options.limit last (length r.applications)) e h.ended), λ e. empty_done s options.limit last (length r.applications) r.end h.ended (sym h.front ∙ e))

-- with no limit a front is left only where nothing applies
left_stuck : (s : RunSetting) (limit : Option ℕ) (st : State) (made : ℕ) (e : End) → limit ≡ None → IsEndOf s limit st made e → st.front ≢ [] → NothingApplies s st
left_stuck s limit st made Done none h k = absurd (k h)
left_stuck s limit st made Stuck none h k = h.1
left_stuck s None st made Stopped none h k = absurd h.1
left_stuck s (Some limit) st made Stopped none h k = absurd (true≢false (ap is_limit none))
  where
    is_limit : Option ℕ → Bool
    is_limit None = false
    is_limit (Some n) = true

not_stopped : (s : RunSetting) (limit : Option ℕ) (st : State) (made : ℕ) (e : End) → limit ≡ None → IsEndOf s limit st made e → is_stopped e ≡ false
not_stopped s limit st made Done none h = refl
not_stopped s limit st made Stuck none h = refl
not_stopped s None st made Stopped none h = absurd h.1
not_stopped s (Some limit) st made Stopped none h = absurd (true≢false (ap is_limit none))
  where
    is_limit : Option ℕ → Bool
    is_limit None = false
    is_limit (Some n) = true

-- ---- of a list of runs
none_any : (test : DomainRun → Bool) (rs : List DomainRun) → AllByRecursion (λ r. test r ≡ false) rs → list_any test rs ≡ false
none_any test [] h = refl
none_any test (r ∷ rs) h = ap (λ (b : Bool). b || list_any test rs) h.0 ∙ none_any test rs h.1

any_none : (test : DomainRun → Bool) (rs : List DomainRun) → list_any test rs ≡ false → AllByRecursion (λ r. test r ≡ false) rs
any_none test [] h = tt
any_none test (r ∷ rs) h = (first (test r) (list_any test rs) h, any_none test rs (second (test r) (list_any test rs) h))
  where
    first : (a b : Bool) → (a || b) ≡ false → a ≡ false
    first true b e = absurd (true≢false e)
    first false b e = refl

    second : (a b : Bool) → (a || b) ≡ false → b ≡ false
    second true b e = absurd (true≢false e)
    second false b e = e

choice : Bool → Bool → End
choice stopped stuck = if stopped then Stopped else (if stuck then Stuck else Done)

neither_done : (e : End) → is_stopped e ≡ false → is_stuck e ≡ false → e ≡ Done
neither_done Done h k = refl
neither_done Stuck h k = absurd (true≢false k)
neither_done Stopped h k = absurd (true≢false h)

all_done : (rs : List DomainRun) → AllByRecursion (λ r. r.end ≡ Done) rs → end_of_all rs ≡ Done
unfolding choice
all_done rs h =
    let stopped = none_any (λ r. is_stopped r.end) rs (all_map (λ r. r.end ≡ Done) (λ r. is_stopped r.end ≡ false) (λ r e. ap is_stopped e) rs h) in
    let stuck = none_any (λ r. is_stuck r.end) rs (all_map (λ r. r.end ≡ Done) (λ r. is_stuck r.end ≡ false) (λ r e. ap is_stuck e) rs h) in
    λ i. choice (stopped i) (stuck i)

done_each : (rs : List DomainRun) → end_of_all rs ≡ Done → AllByRecursion (λ r. r.end ≡ Done) rs
unfolding choice
done_each rs h =
    let both = by (list_any (λ r. is_stopped r.end) rs) (list_any (λ r. is_stuck r.end) rs) h in
    all_both (λ r. is_stopped r.end ≡ false) (λ r. is_stuck r.end ≡ false) (λ r. r.end ≡ Done) (λ r. neither_done r.end) rs
    (any_none (λ r. is_stopped r.end) rs both.0) (any_none (λ r. is_stuck r.end) rs both.1)
  where
    by : (stopped stuck : Bool) → choice stopped stuck ≡ Done → (stopped ≡ false) × (stuck ≡ false)
    by true stuck e = absurd (true≢false (ap is_stopped e))
    by false true e = absurd (true≢false (ap is_stuck e))
    by false false e = (refl, refl)

none_stopped : (rs : List DomainRun) → AllByRecursion (λ r. is_stopped r.end ≡ false) rs → is_stopped (end_of_all rs) ≡ false
unfolding choice
none_stopped rs h = ap (λ (b : Bool). is_stopped (choice b (list_any (λ r. is_stuck r.end) rs))) (none_any (λ r. is_stopped r.end) rs h) ∙ by (list_any (λ r. is_stuck r.end) rs)
  where
    by : (b : Bool) → is_stopped (choice false b) ≡ false
    by true = refl
    by false = refl

-- ---- of all domains
-- what each domain and its run have, of the run alone
of_runs : (P : ℕ → DomainRun → Type 0) (Q : DomainRun → Type 0) → ((d : ℕ) (r : DomainRun) → P d r → Q r) → (ds : List ℕ) (rs : List DomainRun) → AllZip P ds rs → AllByRecursion Q rs
of_runs P Q each [] [] h = tt
of_runs P Q each [] (r ∷ rs) h = absurd h
of_runs P Q each (d ∷ ds) [] h = absurd h
of_runs P Q each (d ∷ ds) (r ∷ rs) h = (each d r h.0, of_runs P Q each ds rs h.1)

pub zip_map : (P Q : ℕ → DomainRun → Type 0) → ((d : ℕ) (r : DomainRun) → P d r → Q d r) → (ds : List ℕ) (rs : List DomainRun) → AllZip P ds rs → AllZip Q ds rs
zip_map P Q each [] [] h = tt
zip_map P Q each [] (r ∷ rs) h = absurd h
zip_map P Q each (d ∷ ds) [] h = absurd h
zip_map P Q each (d ∷ ds) (r ∷ rs) h = (each d r h.0, zip_map P Q each ds rs h.1)

module _ (g : PlanarMap) (rules : List Rule) (options : Options) (w : WholeRun) (run : IsWholeRun g rules options w) where
  done_or_not : AllByRecursion (λ r. (r.end ≡ Done) ↔ (r.front ≡ [])) w.domains
  done_or_not = of_runs (IsDomainRun g rules options) (λ r. (r.end ≡ Done) ↔ (r.front ≡ [])) (λ d r. done_is_empty g rules options d r) (domain_numbers g.segments) w.domains run.domains

  pub whole_done : (w.end ≡ Done) ↔ All (λ r. r.front ≡ []) w.domains
  whole_done = (
    (λ e. All-from_recursion (λ r. r.front ≡ []) w.domains (all_both (λ r. (r.end ≡ Done) ↔ (r.front ≡ [])) (λ r. r.end ≡ Done) (λ r. r.front ≡ []) (λ r h k. h.0 k) w.domains done_or_not (done_each w.domains (sym run.end ∙ e)))),
    (λ h. run.end ∙ all_done w.domains (all_both (λ r. (r.end ≡ Done) ↔ (r.front ≡ [])) (λ r. r.front ≡ []) (λ r. r.end ≡ Done) (λ r i k. i.1 k) w.domains done_or_not (recursion_from_All (λ r. r.front ≡ []) w.domains h))),
  )

  pub never_stopped : options.limit ≡ None → w.end ≢ Stopped
  never_stopped none e =
      true≢false (sym (ap is_stopped (sym run.end ∙ e))
      ∙ none_stopped w.domains (of_runs (IsDomainRun g rules options) (λ r. is_stopped r.end ≡ false)
      (λ d r h. not_stopped (setting_of g rules options d) options.limit (state_after (opening_of g options d) r.applications) (length r.applications) r.end none h.ended) (domain_numbers g.segments) w.domains run.domains))

  pub whole_stuck : options.limit ≡ None → ¬ (All (λ r. r.front ≡ []) w.domains) → w.end ≡ Stuck
  whole_stuck none left = by w.end refl
    where
      by : (e : End) → w.end ≡ e → e ≡ Stuck
      by Done is = absurd (left (whole_done.0 is))
      by Stuck is = refl
      by Stopped is = absurd (never_stopped none is)

  pub nothing_left : options.limit ≡ None → AllZip (λ d r. r.front ≢ [] → NothingApplies (setting_of g rules options d) (state_after (opening_of g options d) r.applications)) (domain_numbers g.segments) w.domains
  nothing_left none =
      zip_map (IsDomainRun g rules options) (λ d r. r.front ≢ [] → NothingApplies (setting_of g rules options d) (state_after (opening_of g options d) r.applications))
      (λ d r h k. left_stuck (setting_of g rules options d) options.limit (state_after (opening_of g options d) r.applications) (length r.applications) r.end none h.ended (λ e. k (h.front ∙ e)))
      (domain_numbers g.segments) w.domains run.domains
