-- What is shown of the run that is found under a number is what the log shows: domain numbers rise, so a number has one run.
use Rattle.std.proofs.Common.{◌≡◌, ◌⊎◌, inl, inr, ℕ, zero, suc, ◌<◌, ◌≤◌, Bool, true, false, cond, nat_eq, nat_lt, List, [], ◌∷◌, length, get_or, Option, Some, None, Result, Ok, Err, refl, sym, ap, subst, ◌∙◌, arith}
use Rattle.std.specs.Prelude.{IfOk, IfErr, MatchResult}
use Rattle.std.specs.List.{AllByRecursion, Contains, find}
use Rattle.mesh_run.specs.declared.domain_run.DomainRun.{DomainRun}
use Rattle.run_log.specs.declared.log.Log.{Log}
use Rattle.run_log.specs.declared.state.View.{View}
use Rattle.run_log.specs.declared.refusal.LogRefusal.{LogRefusal}
use Rattle.run_log.specs.declared.refusal.LogRefusal.TheVariants.{Syntax, Number, BadIndex, NoState, Memory}
use Rattle.run_log.specs.Reading.{Answers, Fails}
use Rattle.run_log.specs.View.{view_of, viewed, AreRising, HasState, Shows, HasNoState}

-- the run with this number, if there is one
abbrev pub found : List DomainRun → ℕ → Option DomainRun
found runs domain = find (λ run. nat_eq run.domain domain) runs

-- ---- a run of the list is found under its number
eq_self : (m n : ℕ) → m ≡ n → nat_eq m n ≡ true
eq_self m n e = grind arith

eq_other : (m n : ℕ) → m < n → nat_eq m n ≡ false
eq_other m n l = grind arith

above_all : (n : ℕ) (runs : List DomainRun) (k : ℕ) (run : DomainRun) → AllByRecursion (λ other. n < other.domain) runs → k < length runs → get_or runs k run ≡ run → n < run.domain
above_all n [] k run all l e = absurd (omega (arith, l))
above_all n (first ∷ runs) zero run all l e = subst (λ (r : DomainRun). n < r.domain) e all.0
above_all n (first ∷ runs) (suc k) run all l e = above_all n runs k run all.1 (omega (arith, l)) e

there_is_found : (runs : List DomainRun) (domain k : ℕ) (run : DomainRun) → AreRising runs → k < length runs → get_or runs k run ≡ run → run.domain ≡ domain → found runs domain ≡ Some run
there_is_found [] domain k run rising l e is = absurd (omega (arith, l))
there_is_found (first ∷ runs) domain zero run rising l e is =
    ap (λ b. cond b (Some first) (found runs domain)) (eq_self first.domain domain (ap (λ (r : DomainRun). r.domain) e ∙ is)) ∙ ap Some e
there_is_found (first ∷ runs) domain (suc k) run rising l e is =
    ap (λ b. cond b (Some first) (found runs domain)) (eq_other first.domain domain (subst (λ (n : ℕ). first.domain < n) is (above_all first.domain runs k run rising.0 (omega (arith, l)) e)))
    ∙ there_is_found runs domain k run rising.1 (omega (arith, l)) e is

-- ---- what is found is in the list, under its number
eq_sound : (m n : ℕ) → nat_eq m n ≡ true → m ≡ n
eq_sound m n h = grind arith

later : {A : Type 0} (first x : A) (xs : List A) → Contains xs x → Contains (first ∷ xs) x
later first x xs c = (suc c.0, omega (arith, c.1), c.2)

found_is_there : (runs : List DomainRun) (domain : ℕ) (run : DomainRun) → found runs domain ≡ Some run → Contains runs run × (run.domain ≡ domain)
found_is_there [] domain run e = absurd cc
found_is_there (first ∷ runs) domain run e = by (nat_eq first.domain domain) (found_is_there runs domain run) refl
  where
    by : (b : Bool) → (found runs domain ≡ Some run → Contains runs run × (run.domain ≡ domain)) → nat_eq first.domain domain ≡ b → Contains (first ∷ runs) run × (run.domain ≡ domain)
    by true go j = let same : Some first ≡ Some run = sym (ap (λ b. cond b (Some first) (found runs domain)) j) ∙ e in let is : first ≡ run = cc in
        ((zero, omega arith, is), sym (ap (λ (r : DomainRun). r.domain) is) ∙ eq_sound first.domain domain j)
    by false go j = let rest = go (sym (ap (λ b. cond b (Some first) (found runs domain)) j) ∙ e) in (later first run runs rest.0, rest.1)

-- ---- so what is shown of it is what the log shows
state_is_viewed : (log : Log) (domain k : ℕ) (run : DomainRun) → AreRising log.domains → HasState log domain k run → viewed (found log.domains domain) domain k ≡ Ok (view_of run k)
state_is_viewed log domain k run rising state =
    ap (λ o. viewed o domain k) (there_is_found log.domains domain state.there.0 run rising state.there.1 state.there.2 state.domain_is) ∙ ap (λ b. cond b (Err (NoState domain k)) (Ok (view_of run k))) (not_less (length run.applications) k state.enough)
  where
    not_less : (m n : ℕ) → n ≤ m → nat_lt m n ≡ false
    not_less m n l = grind arith

-- a view, and the state that it is of; or none
abbrev pub Tells : Log → ℕ → ℕ → Result View LogRefusal → Type 0
Tells log domain k (Ok view) = Shows log domain k view
Tells log domain k (Err e) = (e ≡ NoState domain k) × HasNoState log domain k

no_state : (log : Log) (domain k : ℕ) → AreRising log.domains → viewed (found log.domains domain) domain k ≡ Err (NoState domain k) → HasNoState log domain k
no_state log domain k rising is run state = let other = state_is_viewed log domain k run rising state in absurd cc

pub tells : (log : Log) (domain k : ℕ) → AreRising log.domains → Tells log domain k (viewed (found log.domains domain) domain k)
tells log domain k rising = by (found log.domains domain) refl
  where
    at_most : (m n : ℕ) → nat_lt m n ≡ false → n ≤ m
    at_most m n h = grind arith

    enough : (run : DomainRun) (b : Bool) → found log.domains domain ≡ Some run → nat_lt (length run.applications) k ≡ b → Tells log domain k (cond b (Err (NoState domain k)) (Ok (view_of run k)))
    enough run true e j = (refl, no_state log domain k rising (ap (λ o. viewed o domain k) e ∙ ap (λ b. cond b (Err (NoState domain k)) (Ok (view_of run k))) j))
    enough run false e j = let there = found_is_there log.domains domain run e in record { run = run; state = record { there = there.0; domain_is = there.1; enough = at_most (length run.applications) k j }; is = refl }

    by : (o : Option DomainRun) → found log.domains domain ≡ o → Tells log domain k (viewed o domain k)
    by None e = (refl, no_state log domain k rising (ap (λ o. viewed o domain k) e))
    by (Some run) e = enough run (nat_lt (length run.applications) k) e refl

shown_is_viewed : (log : Log) (domain k : ℕ) (view : View) → AreRising log.domains → Shows log domain k view → viewed (found log.domains domain) domain k ≡ Ok view
shown_is_viewed log domain k view rising shows = state_is_viewed log domain k shows.run rising shows.state ∙ ap Ok (sym shows.is)

failed : (e : LogRefusal) (given : Result View LogRefusal) → Fails e given → (e ≡ Memory) ⊎ (given ≡ Err e)
failed Memory given fails = inl refl
failed (Syntax at) given fails = inr fails
failed (Number at) given fails = inr fails
failed (BadIndex at) given fails = inr fails
failed (NoState d k) given fails = inr fails

pub is_shown : (log : Log) (domain k : ℕ) (result : Result View LogRefusal) → AreRising log.domains → Answers result (viewed (found log.domains domain) domain k) → IfOk result (λ view. Shows log domain k view)
is_shown log domain k (Ok view) rising gives = subst (Tells log domain k) gives (tells log domain k rising)
is_shown log domain k (Err e) rising gives = tt

pub is_only : (log : Log) (domain k : ℕ) (result : Result View LogRefusal) → AreRising log.domains → Answers result (viewed (found log.domains domain) domain k)
    → (view : View) → Shows log domain k view → MatchResult result (λ shown. shown ≡ view) (λ e. e ≡ Memory)
is_only log domain k (Ok shown) rising gives view shows = let other = shown_is_viewed log domain k view rising shows in cc
is_only log domain k (Err e) rising gives view shows = by (failed e (viewed (found log.domains domain) domain k) gives)
  where
    by : (e ≡ Memory) ⊎ (viewed (found log.domains domain) domain k ≡ Err e) → e ≡ Memory
    by (inl memory) = memory
    by (inr other) = let is = shown_is_viewed log domain k view rising shows in absurd cc

pub is_refused : (log : Log) (domain k : ℕ) (result : Result View LogRefusal) → AreRising log.domains → Answers result (viewed (found log.domains domain) domain k)
    → IfErr result (λ e. (e ≡ Memory) ⊎ ((e ≡ NoState domain k) × HasNoState log domain k))
is_refused log domain k (Ok shown) rising gives = tt
is_refused log domain k (Err e) rising gives = by (failed e (viewed (found log.domains domain) domain k) gives)
  where
    by : (e ≡ Memory) ⊎ (viewed (found log.domains domain) domain k ≡ Err e) → (e ≡ Memory) ⊎ ((e ≡ NoState domain k) × HasNoState log domain k)
    by (inl memory) = inl memory
    by (inr other) = inr (subst (Tells log domain k) other (tells log domain k rising))

pub is_refused_only : (log : Log) (domain k : ℕ) (result : Result View LogRefusal) → AreRising log.domains → Answers result (viewed (found log.domains domain) domain k)
    → HasNoState log domain k → MatchResult result (λ view. ⊥) (λ e. (e ≡ NoState domain k) ⊎ (e ≡ Memory))
is_refused_only log domain k (Ok shown) rising gives none = let shows = is_shown log domain k (Ok shown) rising gives in none shows.run shows.state
is_refused_only log domain k (Err e) rising gives none = by (is_refused log domain k (Err e) rising gives)
  where
    by : (e ≡ Memory) ⊎ ((e ≡ NoState domain k) × HasNoState log domain k) → (e ≡ NoState domain k) ⊎ (e ≡ Memory)
    by (inl memory) = inr memory
    by (inr other) = inl other.0
