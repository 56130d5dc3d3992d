-- Reading one after another, as the loops do.
use Rattle.std.proofs.Common.{◌≡◌, ℕ, zero, suc, ◌+◌, true, false, List, [], ◌∷◌, ◌++◌, Result, Ok, Err, refl, sym, ap, ◌∙◌, append_assoc}
use Rattle.std.proofs.lemmas.List.{append-nil}
use Rattle.rule_reader.specs.declared.fault.Fault.{Fault}
use Rattle.rule_reader.specs.declared.fault.Fault.TheVariants.{TooMany}
use Rattle.rule_reader.specs.declared.fault.Stop.{Stop}
use Rattle.rule_reader.specs.declared.fault.Stop.TheVariants as stops
use Rattle.rule_reader.specs.declared.rule.Term.{Term}
use Rattle.rule_reader.specs.declared.rule.Rule.{Rule}
use Rattle.rule_reader.specs.declared.sections.Parts.{Parts}
use Rattle.rule_reader.specs.Words.{State, begun}
use Rattle.rule_reader.specs.Reading.{Read, ◌>>=◌, Fails, opens, mark_at, term_at, past_terms, terms_at, entries_at}
use Rattle.rule_reader.specs.Reading.{is_at}
use Rattle.rule_reader.specs.Sections.{endrule_word, rule_word, section_at, sections_at, rule_at, rules_at}

-- what was read before, and what is still read
abbrev pub with_front : {A : Type 0} → List A → Read (List A) → Read (List A)
with_front front read = read >>= λ x. Ok (front ++ x.0, x.1)

regroup : {A : Type 0} (front : List A) (x : A) (read : Read (List A)) → with_front front (read >>= λ xs. Ok (x ∷ xs.0, xs.1)) ≡ with_front (front ++ x ∷ []) read
regroup front x (Ok xs) = ap (λ (ys : List _). Ok (ys, xs.1)) (simp append_assoc)
regroup front x (Err f) = refl

pub with_front_nil : {A : Type 0} (read : Read (List A)) → with_front [] read ≡ read
with_front_nil (Ok xs) = refl
with_front_nil (Err f) = refl

-- a fault ends it
stops_at : {A B : Type 0} (e : Stop) (read : Result A Fault) (after : A → Result B Fault) (total : Result B Fault) → Fails e read → (read >>= after) ≡ total → Fails e total
stops_at stops.Memory read after total h so_far = tt
stops_at (stops.Fault f) read after total h so_far = let one : (read >>= after) ≡ Err f = rw h refl in sym so_far ∙ one

-- ---- entries

pub entries_go_on : {A : Type 0} (entry : ℕ → State → Read A) (what k room more : ℕ) (st st2 : State) (front : List A) (x : A) (total : Read (List A)) → opens 40 st ≡ true → room ≡ suc more → entry k st ≡ Ok (x, st2)
    → with_front front (entries_at entry what k room st) ≡ total → with_front (front ++ x ∷ []) (entries_at entry what (k + 1) more st2) ≡ total
unfolding entries_at
entries_go_on entry what k room more st st2 front x total opened is read so_far =
    let one : with_front front (entries_at entry what k room st) ≡ with_front (front ++ x ∷ []) (entries_at entry what (k + 1) more st2) = rw (is, opened, read) (regroup front x (entries_at entry what (k + 1) more st2)) in
    sym one ∙ so_far

pub entries_full : {A : Type 0} (entry : ℕ → State → Read A) (what k room : ℕ) (st : State) (front : List A) (total : Read (List A)) → opens 40 st ≡ true → room ≡ zero
    → with_front front (entries_at entry what k room st) ≡ total → total ≡ Err (TooMany st.rule what)
unfolding entries_at
entries_full entry what k room st front total opened is so_far =
    let one : with_front front (entries_at entry what k room st) ≡ Err (TooMany st.rule what) = rw (is, opened) refl in
    sym so_far ∙ one

pub entries_end : {A : Type 0} (entry : ℕ → State → Read A) (what k room : ℕ) (st : State) (front : List A) (total : Read (List A)) → opens 40 st ≡ false
    → with_front front (entries_at entry what k room st) ≡ total → total ≡ Ok (front, st)
unfolding entries_at
entries_end entry what k zero st front total closed so_far =
    let one : with_front front (entries_at entry what k zero st) ≡ Ok (front, st) = rw closed (ap (λ (xs : List _). Ok (xs, st)) (append-nil front)) in
    sym so_far ∙ one
entries_end entry what k (suc room) st front total closed so_far =
    let one : with_front front (entries_at entry what k (suc room) st) ≡ Ok (front, st) = rw closed (ap (λ (xs : List _). Ok (xs, st)) (append-nil front)) in
    sym so_far ∙ one

pub entries_fail : {A : Type 0} (e : Stop) (entry : ℕ → State → Read A) (what k room more : ℕ) (st : State) (front : List A) (total : Read (List A)) → opens 40 st ≡ true → room ≡ suc more → Fails e (entry k st)
    → with_front front (entries_at entry what k room st) ≡ total → Fails e total
unfolding entries_at
entries_fail stops.Memory entry what k room more st front total opened is fails so_far = tt
entries_fail (stops.Fault f) entry what k room more st front total opened is fails so_far =
    let one : with_front front (entries_at entry what k room st) ≡ Err f = rw (is, opened, fails) refl in
    sym so_far ∙ one

-- ---- terms

pub terms_go_on : (room more : ℕ) (st st2 st3 : State) (front : List Term) (t : Term) (u : Unit {0}) (total : Read (List Term)) → room ≡ suc more → term_at st ≡ Ok (t, st2) → opens 44 st2 ≡ true → mark_at 44 st2 ≡ Ok (u, st3)
    → with_front front (terms_at room st) ≡ total → with_front (front ++ t ∷ []) (terms_at more st3) ≡ total
unfolding terms_at
terms_go_on room more st st2 st3 front t u total is read comma mark so_far =
    let one : with_front front (terms_at room st) ≡ with_front (front ++ t ∷ []) (terms_at more st3) = rw (is, read, comma, mark) (regroup front t (terms_at more st3)) in
    sym one ∙ so_far

pub terms_end : (room more : ℕ) (st st2 : State) (front : List Term) (t : Term) (total : Read (List Term)) → room ≡ suc more → term_at st ≡ Ok (t, st2) → opens 44 st2 ≡ false
    → with_front front (terms_at room st) ≡ total → total ≡ Ok (front ++ t ∷ [], st2)
unfolding terms_at
terms_end room more st st2 front t total is read comma so_far =
    let one : with_front front (terms_at room st) ≡ Ok (front ++ t ∷ [], st2) = rw (is, read, comma) refl in
    sym so_far ∙ one

pub terms_full : (room : ℕ) (st : State) (front : List Term) (total : Read (List Term)) → room ≡ zero → with_front front (terms_at room st) ≡ total → total ≡ Err (past_terms st)
unfolding terms_at
terms_full room st front total is so_far =
    let one : with_front front (terms_at room st) ≡ Err (past_terms st) = rw is refl in
    sym so_far ∙ one

pub terms_fail : (e : Stop) (room more : ℕ) (st : State) (front : List Term) (total : Read (List Term)) → room ≡ suc more → Fails e (term_at st) → with_front front (terms_at room st) ≡ total → Fails e total
unfolding terms_at
terms_fail stops.Memory room more st front total is fails so_far = tt
terms_fail (stops.Fault f) room more st front total is fails so_far =
    let one : with_front front (terms_at room st) ≡ Err f = rw (is, fails) refl in
    sym so_far ∙ one

pub terms_fail_comma : (e : Stop) (room more : ℕ) (st st2 : State) (front : List Term) (t : Term) (total : Read (List Term)) → room ≡ suc more → term_at st ≡ Ok (t, st2) → opens 44 st2 ≡ true → Fails e (mark_at 44 st2)
    → with_front front (terms_at room st) ≡ total → Fails e total
unfolding terms_at
terms_fail_comma stops.Memory room more st st2 front t total is read comma fails so_far = tt
terms_fail_comma (stops.Fault f) room more st st2 front t total is read comma fails so_far =
    let one : with_front front (terms_at room st) ≡ Err f = rw (is, read, comma, fails) refl in
    sym so_far ∙ one

-- ---- sections

pub sections_go_on : (room more : ℕ) (parts parts2 : Parts) (st st2 : State) (total : Read Parts) → room ≡ suc more → is_at endrule_word st ≡ false → section_at parts st ≡ Ok (parts2, st2)
    → sections_at room parts st ≡ total → sections_at more parts2 st2 ≡ total
unfolding sections_at
sections_go_on room more parts parts2 st st2 total is goes read so_far =
    let one : sections_at room parts st ≡ sections_at more parts2 st2 = rw (is, goes, read) refl in
    sym one ∙ so_far

pub sections_end : (room more : ℕ) (parts : Parts) (st : State) (total : Read Parts) → room ≡ suc more → is_at endrule_word st ≡ true → sections_at room parts st ≡ total → total ≡ Ok (parts, st)
unfolding sections_at
sections_end room more parts st total is ends so_far =
    let one : sections_at room parts st ≡ Ok (parts, st) = rw (is, ends) refl in
    sym so_far ∙ one

pub sections_all : (room : ℕ) (parts : Parts) (st : State) (total : Read Parts) → room ≡ zero → sections_at room parts st ≡ total → total ≡ Ok (parts, st)
unfolding sections_at
sections_all room parts st total is so_far =
    let one : sections_at room parts st ≡ Ok (parts, st) = rw is refl in
    sym so_far ∙ one

pub sections_fail : (e : Stop) (room more : ℕ) (parts : Parts) (st : State) (total : Read Parts) → room ≡ suc more → is_at endrule_word st ≡ false → Fails e (section_at parts st) → sections_at room parts st ≡ total → Fails e total
unfolding sections_at
sections_fail stops.Memory room more parts st total is goes fails so_far = tt
sections_fail (stops.Fault f) room more parts st total is goes fails so_far =
    let one : sections_at room parts st ≡ Err f = rw (is, goes, fails) refl in
    sym so_far ∙ one

-- ---- rules

pub rules_go_on : (before room more : ℕ) (st st2 : State) (front : List Rule) (r : Rule) (total : Read (List Rule)) → is_at rule_word st ≡ true → room ≡ suc more → rule_at (begun (before + 1) st) ≡ Ok (r, st2)
    → with_front front (rules_at before room st) ≡ total → with_front (front ++ r ∷ []) (rules_at (before + 1) more st2) ≡ total
unfolding rules_at
rules_go_on before room more st st2 front r total opened is read so_far =
    let one : with_front front (rules_at before room st) ≡ with_front (front ++ r ∷ []) (rules_at (before + 1) more st2) = rw (is, opened, read) (regroup front r (rules_at (before + 1) more st2)) in
    sym one ∙ so_far

pub rules_full : (before room : ℕ) (st : State) (front : List Rule) (total : Read (List Rule)) → is_at rule_word st ≡ true → room ≡ zero → with_front front (rules_at before room st) ≡ total → total ≡ Err (TooMany (before + 1) 1)
unfolding rules_at
rules_full before room st front total opened is so_far =
    let one : with_front front (rules_at before room st) ≡ Err (TooMany (before + 1) 1) = rw (is, opened) refl in
    sym so_far ∙ one

pub rules_end : (before room : ℕ) (st : State) (front : List Rule) (total : Read (List Rule)) → is_at rule_word st ≡ false → with_front front (rules_at before room st) ≡ total → total ≡ Ok (front, st)
unfolding rules_at
rules_end before zero st front total closed so_far =
    let one : with_front front (rules_at before zero st) ≡ Ok (front, st) = rw closed (ap (λ (xs : List Rule). Ok (xs, st)) (append-nil front)) in
    sym so_far ∙ one
rules_end before (suc room) st front total closed so_far =
    let one : with_front front (rules_at before (suc room) st) ≡ Ok (front, st) = rw closed (ap (λ (xs : List Rule). Ok (xs, st)) (append-nil front)) in
    sym so_far ∙ one

pub rules_fail : (e : Stop) (before room more : ℕ) (st : State) (front : List Rule) (total : Read (List Rule)) → is_at rule_word st ≡ true → room ≡ suc more → Fails e (rule_at (begun (before + 1) st))
    → with_front front (rules_at before room st) ≡ total → Fails e total
unfolding rules_at
rules_fail stops.Memory before room more st front total opened is fails so_far = tt
rules_fail (stops.Fault f) before room more st front total opened is fails so_far =
    let one : with_front front (rules_at before room st) ≡ Err f = rw (is, opened, fails) refl in
    sym so_far ∙ one
