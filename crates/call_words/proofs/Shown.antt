-- Where a number is out of its range, or mesh and log have one name, a word is at fault: more words would not mend it.
use Rattle.std.proofs.Common.{◌≡◌, ◌⊎◌, inl, inr, ℕ, Bool, true, false, zero, suc, ◌-◌, ◌≤◌, ◌<◌, List, [], ◌∷◌, ◌++◌, length, take, Some, None, codes, refl, sym, ap, ◌∙◌, subst, arith}
use Rattle.std.proofs.Math.Seq.{take-length}
use Rattle.call_words.specs.declared.words_fault.WordsFault.TheVariants.{Value, SameName}
use Rattle.call_words.specs.declared.command.Verb.{Verb}
use Rattle.call_words.specs.declared.settings.Setting.{Setting}
use Rattle.call_words.specs.CommandLine.{Reads, AtEnd, PlacesAlone, APlace, TwoWords, OneWord, setting_word, Given, word_given, with_word, nothing_given}
use Rattle.call_words.specs.Commands.{place_count, IsForm, StandFor, IsFault}
use Rattle.call_words.specs.WordsRead.{with_place, reading}
use Rattle.call_words.specs.Walks.{AreRight}
use Rattle.call_words.specs.Begun.{Begins, IsVerbAnd, IsFormed, StandsFor, IsFirstAtFault}
use Rattle.call_words.proofs.WordsRead.{some_of, mapped, plain_sort, sort_before, sort_with, set_free, reads_from, read_again, one_reading}
use Rattle.call_words.proofs.Options.{keeps, lt_or_le}
use Rattle.call_words.proofs.Exclusion.{same_start, never_both}
use Rattle.call_words.proofs.AtFault.{looks, fewer, stands_where, stood_by}

abbrev Words : Type 0
Words = List (List ℕ)

abbrev Found : Type 0
Found = Words × Given

-- the places go on, and options that are set stay so
record GoesOn (places others : Words) (all further : Given) : Type 0 where
  pub tail : Words
  pub same : others ≡ places ++ tail
  pub keep : (x : Setting) (v : List ℕ) → word_given x all ≡ Some v → word_given x further ≡ Some v

goes_on : {given : Given} {words places : Words} {all : Given} → Reads given words places all → (more others : Words) (further : Given) → reading None given (words ++ more) ≡ Some (others, further) → GoesOn places others all further
unfolding reading
goes_on (AtEnd given) more others further e = record { tail = others; same = refl; keep = keeps (reads_from more None given others further e) }
goes_on (PlacesAlone given places) more others further e =
    let f = some_of (places ++ more, given) (others, further) e in
    let all : given ≡ further = ap (λ (g : Found). g.1) f in
    record { tail = more; same = sym (ap (λ (g : Found). g.0) f); keep = λ x v h. ap (word_given x) (sym all) ∙ h }
goes_on (APlace given word words places all is r) more others further e =
    let read : reading None given (word ∷ (words ++ more)) ≡ with_place word (reading None given (words ++ more)) = rw (plain_sort word is) refl in
    let m = mapped (λ (g : Found). (word ∷ g.0, g.1)) (reading None given (words ++ more)) (others, further) (sym read ∙ e) in
    let g = goes_on r more m.0.0 m.0.1 m.1 in
    let all : m.0.1 ≡ further = ap (λ (g : Found). g.1) m.2 in
    record {
      tail = g.tail;
      same = sym (ap (λ (g : Found). g.0) m.2) ∙ ap (λ (ps : Words). word ∷ ps) g.same;
      keep = λ x v h. ap (word_given x) (sym all) ∙ g.keep x v h;
    }
goes_on (TwoWords given setting value words places all free is r) more others further e =
    let read : reading None given ((codes "--" ++ setting_word setting) ∷ value ∷ (words ++ more)) ≡ reading None (with_word setting value given) (words ++ more) = rw (sort_before setting, plain_sort value is, set_free setting value given free) refl in
    goes_on r more others further (sym read ∙ e)
goes_on (OneWord given setting value words places all free r) more others further e =
    let read : reading None given ((codes "--" ++ setting_word setting ++ codes "=" ++ value) ∷ (words ++ more)) ≡ reading None (with_word setting value given) (words ++ more) = rw (sort_with setting value, set_free setting value given free) refl in
    goes_on r more others further (sym read ∙ e)

no_tail : (places others tail : Words) (n : ℕ) → length places ≡ n → length others ≡ n → others ≡ places ++ tail → others ≡ places
no_tail [] [] tail n k l e = refl
no_tail [] (other ∷ others) tail n k l e = absurd (omega arith)
no_tail (place ∷ places) [] tail n k l e = absurd (omega arith)
no_tail (place ∷ places) (other ∷ others) tail zero k l e = absurd (omega arith)
no_tail (place ∷ places) (other ∷ others) tail (suc n) k l e =
    let head : other ≡ place = cc in
    let rest : others ≡ places ++ tail = cc in
    let more = no_tail places others tail n (omega arith) (omega arith) rest in
    ap (λ (w : List ℕ). w ∷ others) head ∙ ap (λ (ws : Words). place ∷ ws) more

-- words in the form with which words begin that stand for a task stand for one
stands_already : (verb : Verb) (names : Bool) (words more places : Words) (given : Given) → IsForm verb words places given → StandsFor names verb (words ++ more) → StandsFor names verb words
stands_already verb names words more places given form stands =
    let by = stood_by verb names (words ++ more) stands in
    let g = goes_on form.reads more by.places by.given (read_again by.form.reads) in
    let same = no_tail places by.places g.tail (place_count verb) form.count by.form.count g.same in
    let values = fewer given by.given by.whole.1.0 g.keep by.whole.1.1 in
    stands_where verb names words places given form (subst (λ (ps : Words). AreRight verb (looks verb names) 0 None ps) same by.whole.0, values)

call_already : (names : Bool) (words : Words) → IsVerbAnd IsFormed words → Begins (IsVerbAnd (StandsFor names)) words → IsVerbAnd (StandsFor names) words
call_already names words f b =
    let c = b.1 in
    let s = same_start f.0 c.0 (f.1 ++ b.0) c.1 (ap (λ (ws : Words). ws ++ b.0) (sym f.2) ∙ c.2) in
    let there : StandsFor names f.0 (f.1 ++ b.0) = subst (λ (v : Verb). StandsFor names v (f.1 ++ b.0)) (sym s.0) (subst (λ (ws : Words). StandsFor names c.0 ws) (sym s.1) c.3) in
    (f.0, f.1, f.2, stands_already f.0 names f.1 b.0 f.3.0 f.3.1 f.3.2 there)

-- where no word is at fault, a call stands for a task
unless_shown : (names : Bool) (words : Words) (n : ℕ) → IsVerbAnd IsFormed words → IsFirstAtFault names words n → length words < n → IsVerbAnd (StandsFor names) words
unless_shown names words n call first lt =
    let within = first.within in
    let all : n - 1 ≡ length words = omega arith in
    let whole : take (n - 1) words ≡ words = ap (λ k. take k words) all ∙ take-length words in
    call_already names words call (subst (λ (ws : Words). Begins (IsVerbAnd (StandsFor names)) ws) whole first.before)

number_call : (words : Words) → IsFault words Value → IsVerbAnd IsFormed words
number_call words h = (h.0, h.1, h.2, (h.3.0, h.3.1, h.3.2))

name_call : (words : Words) → IsFault words SameName → IsVerbAnd IsFormed words
name_call words h = (h.0, h.1, h.2, (h.3.2.0, h.3.2.1, subst (λ (v : Verb). IsForm v h.1 h.3.2.0 h.3.2.1) h.3.1 h.3.2.2))

-- a number is of its kind in words that stand for a task
number_stands : (words : Words) → IsFault words Value → IsVerbAnd (StandsFor false) words → ⊥
number_stands words h c =
    let s = same_start h.0 c.0 h.1 c.1 (sym h.2 ∙ c.2) in
    let calls = c.3.2 in
    let form : IsForm c.0 c.1 calls.0 calls.1 = subst (λ (v : Verb). IsForm v c.1 calls.0 calls.1) c.3.1 calls.2 in
    let r = one_reading nothing_given h.1 h.3.0 calls.0 h.3.1 calls.1 h.3.2.reads (subst (λ (ws : Words). Reads nothing_given ws calls.0 calls.1) (sym s.1) form.reads) in
    h.3.3 c.3.0 (c.3.1 ∙ sym s.0) (subst (λ (ps : Words). StandFor ps h.3.1 c.3.0) (sym r.0) (subst (λ (g : Given). StandFor calls.0 g c.3.0) (sym r.1) calls.3))

name_stands : (words : Words) → IsFault words SameName → IsVerbAnd (StandsFor true) words → ⊥
name_stands words h c = never_both words c.3.0 SameName (c.0, c.1, c.2, (c.3.1, c.3.2, c.3.3)) h

pub number_shown : (words : Words) (n : ℕ) → IsFault words Value → IsFirstAtFault false words n → n ≤ length words
number_shown words n h first = go (lt_or_le (length words) n)
  where
    go : (length words < n) ⊎ (n ≤ length words) → n ≤ length words
    go (inr le) = le
    go (inl lt) = absurd (number_stands words h (unless_shown false words n (number_call words h) first lt))

pub name_shown : (words : Words) (n : ℕ) → IsFault words SameName → IsFirstAtFault true words n → n ≤ length words
name_shown words n h first = go (lt_or_le (length words) n)
  where
    go : (length words < n) ⊎ (n ≤ length words) → n ≤ length words
    go (inr le) = le
    go (inl lt) = absurd (name_stands words h (unless_shown true words n (name_call words h) first lt))
