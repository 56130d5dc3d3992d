-- The first word that can't stand where it stands: what is read word by word is what words in the form say.
--
-- A word that may stand behind a walk leads to a walk with the same words behind it (`same`); where one may not, no
-- words fit (`off`); and behind a sound walk some words fit: the value of an option that waits, and the places that
-- are missing (`ends`).
use Rattle.std.proofs.Common.{◌≡◌, ◌≢◌, ◌⊎◌, inl, inr, ℕ, zero, suc, ◌+◌, ◌-◌, ◌<◌, Bool, true, false, cond, List, [], ◌∷◌, length, Option, Some, None, map, string_bytes, refl, sym, ap, ◌∙◌, subst, arith}
use Rattle.std.specs.Prelude.{nat_lt, option_map, option_and_then, String}
use Rattle.std.proofs.lemmas.Bool.{ltb-true, ltb-false}
use Rattle.call_words.specs.declared.command.Verb.{Verb}
use Rattle.call_words.specs.declared.command.Verb.TheVariants as verbs
use Rattle.call_words.specs.declared.settings.Setting.{Setting}
use Rattle.call_words.specs.CommandLine.{setting_word, Given, nothing_given, word_given, with_word}
use Rattle.call_words.specs.Commands.{verb_word, place_count, MayBeGiven, IsForm}
use Rattle.call_words.specs.WordsRead.{WordSort, PlainWord, Dashes, Before, With, Other, word_sort, is_plain_sort, setting_of, set_first, set_called, with_place, read_word, read_value, reading}
use Rattle.call_words.specs.Forms.{takes_options}
use Rattle.call_words.specs.Begun.{Begins, IsFirstOff, IsVerbAnd, IsFormed}
use Rattle.call_words.proofs.FirstOff.{no_text, at_once, later, alike}
use Rattle.call_words.specs.Walks.{Walk, at_start, placed, waiting, set_to, if_free, free_option, walked_by, walked_past, walked_on, read_behind, Fits, IsSound, walk_seen}
use Rattle.call_words.specs.declared.misfit.Walk.{Walk as WalkValue}
use Rattle.call_words.proofs.WordsRead.{some_of, none_some, mapped, called, set_free, reads_from, read_again}
use Rattle.call_words.proofs.Exclusion.{same_start}
use Rattle.call_words.proofs.Options.{set_some, waiting_never}

abbrev Words : Type 0
Words = List (List ℕ)

abbrev Found : Type 0
Found = Words × Given

-- ---- a word that may stand there

-- the word is a place, or it isn't
abbrev pub IsPlaceStep : Walk → List ℕ → Walk → Type 0
IsPlaceStep walk word next = (next.passed ≡ walk.passed + 1) × ((more : Words) → read_behind walk (word ∷ more) ≡ with_place word (read_behind next more))

abbrev pub IsNoPlaceStep : Walk → List ℕ → Walk → Type 0
IsNoPlaceStep walk word next = (next.passed ≡ walk.passed) × ((more : Words) → read_behind walk (word ∷ more) ≡ read_behind next more)

-- the same words fit behind the word and behind the walk that it leads to, which is sound too
pub record Same (verb : Verb) (walk : Walk) (word : List ℕ) (next : Walk) : Type 0 where
  pub on : (more : Words) → Fits verb next more → Fits verb walk (word ∷ more)
  pub back : (more : Words) → Fits verb walk (word ∷ more) → Fits verb next more
  pub sound : IsSound verb next
  pub step : IsPlaceStep walk word next ⊎ IsNoPlaceStep walk word next

-- a place
a_place : (verb : Verb) (walk next : Walk) (word : List ℕ) → next.passed ≡ walk.passed + 1 → ((more : Words) → read_behind walk (word ∷ more) ≡ with_place word (read_behind next more)) → IsSound verb next → Same verb walk word next
a_place verb walk next word one same sound = record { on = on; back = back; sound = sound; step = inl (one, same) }
  where
    on : (more : Words) → Fits verb next more → Fits verb walk (word ∷ more)
    on more fits =
        let n = fits.count in
        record {
          places = word ∷ fits.places;
          all = fits.all;
          read = same more ∙ ap (with_place word) fits.read;
          count = omega arith;
          options = fits.options;
        }

    back : (more : Words) → Fits verb walk (word ∷ more) → Fits verb next more
    back more fits =
        let m = mapped (λ (f : Found). (word ∷ f.0, f.1)) (read_behind next more) (fits.places, fits.all) (sym (same more) ∙ fits.read) in
        let places : word ∷ m.0.0 ≡ fits.places = ap (λ (f : Found). f.0) m.2 in
        let all : m.0.1 ≡ fits.all = ap (λ (f : Found). f.1) m.2 in
        let long : suc (length m.0.0) ≡ length fits.places = ap (λ (ps : Words). length ps) places in
        let n = fits.count in
        record { places = m.0.0; all = m.0.1; read = m.1; count = omega arith; options = λ o. all ∙ fits.options o }

-- a word that is no place
no_place : (verb : Verb) (walk next : Walk) (word : List ℕ) → next.passed ≡ walk.passed → ((more : Words) → read_behind walk (word ∷ more) ≡ read_behind next more) → IsSound verb next → Same verb walk word next
no_place verb walk next word one same sound = record {
  on = λ more fits. let n = fits.count in record { places = fits.places; all = fits.all; read = same more ∙ fits.read; count = omega arith; options = fits.options };
  back = λ more fits. let n = fits.count in record { places = fits.places; all = fits.all; read = sym (same more) ∙ fits.read; count = omega arith; options = fits.options };
  sound = sound;
  step = inr (one, same);
}

-- one place more
placed_on : (verb : Verb) (walk next : Walk) (word : List ℕ) → placed verb walk ≡ Some next → IsSound verb walk → ((more : Words) → read_behind walk (word ∷ more) ≡ with_place word (read_behind walk more)) → Same verb walk word next
placed_on verb walk next word e sound same = go (nat_lt walk.passed (place_count verb)) refl e
  where
    go : (t : Bool) → nat_lt walk.passed (place_count verb) ≡ t → cond t (Some (record walk { passed = walk.passed + 1 })) None ≡ Some next → Same verb walk word next
    go true lt e = subst (Same verb walk word) (some_of _ next e) (a_place verb walk (record walk { passed = walk.passed + 1 }) word refl same (record { few = let below = ltb-true walk.passed (place_count verb) lt in omega arith; free = sound.free; own = sound.own; bare = sound.bare }))
    go false lt e = none_some next e

-- an option that may be set
record MayBeSet (verb : Verb) (given : Given) (name : List ℕ) (setting : Setting) : Type 0 where
  pub called : name ≡ setting_word setting
  pub own : takes_options verb ≡ true
  pub free : word_given setting given ≡ None

may_be_set : (verb : Verb) (given : Given) (name : List ℕ) (setting : Setting) → free_option verb given (setting_of name) ≡ Some setting → MayBeSet verb given name setting
may_be_set verb given name setting e = go (setting_of name) refl e
  where
    by : (other : Setting) (own : Bool) (word : Option (List ℕ)) → takes_options verb ≡ own → word_given other given ≡ word → setting_of name ≡ Some other → if_free own word other ≡ Some setting → MayBeSet verb given name setting
    by other true None o w c e = subst (MayBeSet verb given name) (some_of other setting e) (record { called = called name other c; own = o; free = w })
    by other true (Some word) o w c e = none_some setting e
    by other false word o w c e = none_some setting e

    go : (found : Option Setting) → setting_of name ≡ found → free_option verb given found ≡ Some setting → MayBeSet verb given name setting
    go None c e = none_some setting e
    go (Some other) c e = by other (takes_options verb) (word_given other given) refl refl c e

-- an option is set, so there are options
not_bare : {A : Type 0} (verb : Verb) → takes_options verb ≡ true → takes_options verb ≡ false → A
not_bare verb all none = absurd cc

set_sound : (verb : Verb) (walk : Walk) (word : List ℕ) (setting : Setting) → takes_options verb ≡ true → IsSound verb walk → IsSound verb (set_to word walk setting)
set_sound verb walk word setting own sound = record {
  few = sound.few;
  free = λ other e. none_some other e;
  own = λ other e. none_some other e;
  bare = λ none. not_bare verb own none;
}

waits_sound : (verb : Verb) (walk : Walk) (name : List ℕ) (setting : Setting) → MayBeSet verb walk.given name setting → IsSound verb walk → IsSound verb (waiting walk setting)
waits_sound verb walk name setting may sound = record {
  few = sound.few;
  free = λ other e. subst (λ (s : Setting). word_given s walk.given ≡ None) (some_of setting other e) may.free;
  own = λ other e. may.own;
  bare = sound.bare;
}

-- `--name=value` is read as the option that is set
read_with : (given : Given) (name value : List ℕ) (words : Words) (setting : Setting) → name ≡ setting_word setting → word_given setting given ≡ None → option_and_then (λ now. reading None now words) (set_called name value given) ≡ reading None (with_word setting value given) words
read_with given name value words setting e free = ap (option_and_then (λ now. reading None now words)) (ap (λ (n : List ℕ). set_called n value given) e ∙ set_free setting value given free)

abbrev fresh : ℕ → Given → Option Setting → Walk
fresh passed given waits = record { passed = passed; given = given; waits = waits; alone = false }

is_fresh : (walk : Walk) (waits : Option Setting) → walk.alone ≡ false → walk.waits ≡ waits → walk ≡ fresh walk.passed walk.given waits
is_fresh walk waits a w = ap (λ (t : Bool). record { passed = walk.passed; given = walk.given; waits = walk.waits; alone = t }) a ∙ ap (λ (o : Option Setting). fresh walk.passed walk.given o) w

by_sort : (verb : Verb) (passed : ℕ) (given : Given) (word : List ℕ) (s : WordSort) (next : Walk) → word_sort word ≡ s → walked_by verb (fresh passed given None) s ≡ Some next → IsSound verb (fresh passed given None) → Same verb (fresh passed given None) word next
unfolding reading
by_sort verb passed given word PlainWord next is e sound = placed_on verb (fresh passed given None) next word e sound (λ more. ap (λ s. read_word s given word more (λ waits now. reading waits now more)) is)
by_sort verb passed given word Dashes next is e sound =
    subst (Same verb (fresh passed given None) word) (some_of _ next e)
    (no_place verb (fresh passed given None) (record (fresh passed given None) { alone = true }) word refl
    (λ more. ap (λ s. read_word s given word more (λ waits now. reading waits now more)) is)
    (record { few = sound.few; free = sound.free; own = sound.own; bare = sound.bare }))
by_sort verb passed given word (Before name) next is e sound =
    let m = mapped (waiting (fresh passed given None)) (free_option verb given (setting_of name)) next e in
    let may = may_be_set verb given name m.0 m.1 in
    subst (Same verb (fresh passed given None) word) m.2
    (no_place verb (fresh passed given None) (waiting (fresh passed given None) m.0) word refl
    (λ more. ap (λ s. read_word s given word more (λ waits now. reading waits now more)) is ∙ ap (λ (n : List ℕ). reading (Some n) given more) may.called)
    (waits_sound verb (fresh passed given None) name m.0 may sound))
by_sort verb passed given word (With name value) next is e sound =
    let m = mapped (set_to value (fresh passed given None)) (free_option verb given (setting_of name)) next e in
    let may = may_be_set verb given name m.0 m.1 in
    subst (Same verb (fresh passed given None) word) m.2
    (no_place verb (fresh passed given None) (set_to value (fresh passed given None) m.0) word refl
    (λ more. ap (λ s. read_word s given word more (λ waits now. reading waits now more)) is ∙ read_with given name value more m.0 may.called may.free)
    (set_sound verb (fresh passed given None) value m.0 may.own sound))
by_sort verb passed given word Other next is e sound = none_some next e

by_value : (verb : Verb) (passed : ℕ) (given : Given) (word : List ℕ) (setting : Setting) (next : Walk) → walked_past verb (fresh passed given (Some setting)) word (Some setting) ≡ Some next → IsSound verb (fresh passed given (Some setting)) → Same verb (fresh passed given (Some setting)) word next
unfolding reading
by_value verb passed given word setting next e sound = go (is_plain_sort (word_sort word)) refl e
  where
    go : (t : Bool) → is_plain_sort (word_sort word) ≡ t → cond t (Some (set_to word (fresh passed given (Some setting)) setting)) None ≡ Some next → Same verb (fresh passed given (Some setting)) word next
    go true is e =
        subst (Same verb (fresh passed given (Some setting)) word) (some_of _ next e)
        (no_place verb (fresh passed given (Some setting)) (set_to word (fresh passed given (Some setting)) setting) word refl
        (λ more. ap (λ t. read_value t (setting_word setting) given word (λ now. reading None now more)) is ∙ read_with given (setting_word setting) word more setting refl (sound.free setting refl))
        (set_sound verb (fresh passed given (Some setting)) word setting (sound.own setting refl) sound))
    go false is e = none_some next e

pub same : (verb : Verb) (walk : Walk) (word : List ℕ) (next : Walk) → walked_on verb walk word ≡ Some next → IsSound verb walk → Same verb walk word next
same verb walk word next e sound = go walk.alone walk.waits refl refl
  where
    go : (alone : Bool) (waits : Option Setting) → walk.alone ≡ alone → walk.waits ≡ waits → Same verb walk word next
    go true waits a w = placed_on verb walk next word (ap (λ t. cond t (placed verb walk) (walked_past verb walk word walk.waits)) (sym a) ∙ e) sound (λ more. rw a refl)
    go false None a w = let is = is_fresh walk None a w in subst (λ (v : Walk). Same verb v word next) (sym is) (by_sort verb walk.passed walk.given word (word_sort word) next refl (ap (λ (v : Walk). walked_on verb v word) (sym is) ∙ e) (subst (IsSound verb) is sound))
    go false (Some setting) a w = let is = is_fresh walk (Some setting) a w in subst (λ (v : Walk). Same verb v word next) (sym is) (by_value verb walk.passed walk.given word setting next (ap (λ (v : Walk). walked_on verb v word) (sym is) ∙ e) (subst (IsSound verb) is sound))

-- ---- a word that may not stand there

-- no option of this name is set behind
never_set : (verb : Verb) (given : Given) (name value : List ℕ) (words places : Words) (all : Given) → free_option verb given (setting_of name) ≡ None → (takes_options verb ≡ false → all ≡ nothing_given) → option_and_then (λ now. reading None now words) (set_called name value given) ≡ Some (places, all) → ⊥
never_set verb given name value words places all none bare e = go (setting_of name) refl none
  where
    unset : (found : Option Setting) → setting_of name ≡ found → option_and_then (λ setting. set_first setting value given (word_given setting given)) found ≡ None → ⊥
    unset found is none = none_some (places, all) (sym (ap (option_and_then (λ now. reading None now words)) (ap (option_and_then (λ setting. set_first setting value given (word_given setting given))) is ∙ none)) ∙ e)

    by : (setting : Setting) (own : Bool) (word : Option (List ℕ)) → takes_options verb ≡ own → word_given setting given ≡ word → setting_of name ≡ Some setting → if_free own word setting ≡ None → ⊥
    by setting true None o w is none = none_some setting (sym none)
    by setting true (Some word) o w is none = unset (Some setting) is (ap (set_first setting value given) w)
    by setting false word o w is none = set_some name value given words places all e (bare o)

    go : (found : Option Setting) → setting_of name ≡ found → free_option verb given found ≡ None → ⊥
    go None is none = unset None is refl
    go (Some setting) is none = by setting (takes_options verb) (word_given setting given) refl refl is none

-- there is no place more
no_more : (verb : Verb) (walk : Walk) (word : List ℕ) (more : Words) → placed verb walk ≡ None → ((more : Words) → read_behind walk (word ∷ more) ≡ with_place word (read_behind walk more)) → ¬ Fits verb walk (word ∷ more)
no_more verb walk word more e alike fits = go (nat_lt walk.passed (place_count verb)) refl e
  where
    go : (t : Bool) → nat_lt walk.passed (place_count verb) ≡ t → cond t (Some (record walk { passed = walk.passed + 1 })) None ≡ None → ⊥
    go true lt e = none_some _ (sym e)
    go false lt e =
        let m = mapped (λ (f : Found). (word ∷ f.0, f.1)) (read_behind walk more) (fits.places, fits.all) (sym (alike more) ∙ fits.read) in
        let long : suc (length m.0.0) ≡ length fits.places = ap (λ (f : Found). length f.0) m.2 in
        let n = fits.count in
        let full = ltb-false walk.passed (place_count verb) lt in
        absurd (omega arith)

none_mapped : {A B : Type 0} (f : A → B) (o : Option A) → option_map f o ≡ None → o ≡ None
none_mapped f None e = refl
none_mapped f (Some x) e = none_some (f x) (sym e)

off_sort : (verb : Verb) (passed : ℕ) (given : Given) (word : List ℕ) (s : WordSort) (more : Words) → word_sort word ≡ s → walked_by verb (fresh passed given None) s ≡ None → ¬ Fits verb (fresh passed given None) (word ∷ more)
unfolding reading
off_sort verb passed given word PlainWord more is e = no_more verb (fresh passed given None) word more e (λ more. ap (λ s. read_word s given word more (λ waits now. reading waits now more)) is)
off_sort verb passed given word Dashes more is e = λ fits. none_some _ (sym e)
off_sort verb passed given word (Before name) more is e = λ fits. waiting_never name given more fits.places fits.all (λ v later found. never_set verb given name v later fits.places fits.all (none_mapped (waiting (fresh passed given None)) (free_option verb given (setting_of name)) e) fits.options found) (ap (λ s. read_word s given word more (λ waits now. reading waits now more)) (sym is) ∙ fits.read)
off_sort verb passed given word (With name value) more is e = λ fits. never_set verb given name value more fits.places fits.all (none_mapped (set_to value (fresh passed given None)) (free_option verb given (setting_of name)) e) fits.options (ap (λ s. read_word s given word more (λ waits now. reading waits now more)) (sym is) ∙ fits.read)
off_sort verb passed given word Other more is e = λ fits. none_some (fits.places, fits.all) (ap (λ s. read_word s given word more (λ waits now. reading waits now more)) (sym is) ∙ fits.read)

off_value : (verb : Verb) (passed : ℕ) (given : Given) (word : List ℕ) (setting : Setting) (more : Words) → walked_past verb (fresh passed given (Some setting)) word (Some setting) ≡ None → ¬ Fits verb (fresh passed given (Some setting)) (word ∷ more)
unfolding reading
off_value verb passed given word setting more e fits = go (is_plain_sort (word_sort word)) refl e
  where
    go : (t : Bool) → is_plain_sort (word_sort word) ≡ t → cond t (Some (set_to word (fresh passed given (Some setting)) setting)) None ≡ None → ⊥
    go true is e = none_some _ (sym e)
    go false is e = none_some (fits.places, fits.all) (ap (λ t. read_value t (setting_word setting) given word (λ now. reading None now more)) (sym is) ∙ fits.read)

pub off : (verb : Verb) (walk : Walk) (word : List ℕ) → walked_on verb walk word ≡ None → (more : Words) → ¬ Fits verb walk (word ∷ more)
off verb walk word e more = go walk.alone walk.waits refl refl
  where
    go : (alone : Bool) (waits : Option Setting) → walk.alone ≡ alone → walk.waits ≡ waits → ¬ Fits verb walk (word ∷ more)
    go true waits a w = no_more verb walk word more (ap (λ t. cond t (placed verb walk) (walked_past verb walk word walk.waits)) (sym a) ∙ e) (λ more. rw a refl)
    go false None a w = let is = is_fresh walk None a w in subst (λ (v : Walk). ¬ Fits verb v (word ∷ more)) (sym is) (off_sort verb walk.passed walk.given word (word_sort word) more refl (ap (λ (v : Walk). walked_on verb v word) (sym is) ∙ e))
    go false (Some setting) a w = let is = is_fresh walk (Some setting) a w in subst (λ (v : Walk). ¬ Fits verb v (word ∷ more)) (sym is) (off_value verb walk.passed walk.given word setting more (ap (λ (v : Walk). walked_on verb v word) (sym is) ∙ e))

-- ---- behind a sound walk some words fit

-- so many words `1`
abbrev ones : ℕ → Words
ones zero = []
ones (suc n) = (49 ∷ []) ∷ ones n

many : (n : ℕ) → length (ones n) ≡ n
many zero = refl
many (suc n) = ap suc (many n)

ones_read : (n : ℕ) (given : Given) → reading None given (ones n) ≡ Some (ones n, given)
unfolding reading
ones_read zero given = refl
ones_read (suc n) given = ap (with_place (49 ∷ [])) (ones_read n given)

-- the places that are missing
missing_fit : (verb : Verb) (walk : Walk) → IsSound verb walk → read_behind walk (ones (place_count verb - walk.passed)) ≡ Some (ones (place_count verb - walk.passed), walk.given) → Fits verb walk (ones (place_count verb - walk.passed))
missing_fit verb walk sound read = record {
  places = ones (place_count verb - walk.passed);
  all = walk.given;
  read = read;
  count = let few = sound.few in let m = many (place_count verb - walk.passed) in omega arith;
  options = sound.bare;
}

pub ends : (verb : Verb) (walk : Walk) → IsSound verb walk → (more : Words) × Fits verb walk more
ends verb walk sound = go walk.alone walk.waits refl refl
  where
    n : ℕ
    n = place_count verb - walk.passed

    go : (alone : Bool) (waits : Option Setting) → walk.alone ≡ alone → walk.waits ≡ waits → (more : Words) × Fits verb walk more
    go true waits a w = (ones n, missing_fit verb walk sound (rw a refl))
    go false None a w = (ones n, missing_fit verb walk sound (rw (a, w) (ones_read n walk.given)))
    go false (Some setting) a w =
        let is = is_fresh walk (Some setting) a w in
        let there : IsSound verb (fresh walk.passed walk.given (Some setting)) = subst (IsSound verb) is sound in
        let s = by_value verb walk.passed walk.given (49 ∷ []) setting (set_to (49 ∷ []) (fresh walk.passed walk.given (Some setting)) setting) refl there in
        ((49 ∷ []) ∷ ones n, subst (λ (v : Walk). Fits verb v ((49 ∷ []) ∷ ones n)) (sym is) (s.on (ones n) (missing_fit verb (set_to (49 ∷ []) (fresh walk.passed walk.given (Some setting)) setting) s.sound (ones_read n (with_word setting (49 ∷ []) walk.given)))))

-- ---- the first misfit

-- from what a call gives
pub goes_on : (verb : Verb) (walk : Walk) (word : List ℕ) (next : Option WalkValue) (value : WalkValue) → next ≡ Some value → option_map walk_seen next ≡ walked_on verb walk word → walked_on verb walk word ≡ Some (walk_seen value)
goes_on verb walk word next value is e = sym e ∙ ap (option_map walk_seen) is

pub stays : (verb : Verb) (walk : Walk) (word : List ℕ) (next : Option WalkValue) → next ≡ None → option_map walk_seen next ≡ walked_on verb walk word → walked_on verb walk word ≡ None
stays verb walk word next none e = sym e ∙ ap (option_map walk_seen) none

pub sound_on : (verb : Verb) (walk : Walk) (word : List ℕ) (next : Option WalkValue) (value : WalkValue) → next ≡ Some value → option_map walk_seen next ≡ walked_on verb walk word → IsSound verb walk → IsSound verb (walk_seen value)
sound_on verb walk word next value is e sound = (same verb walk word (walk_seen value) (goes_on verb walk word next value is e) sound).sound

pub no_words_fit : {Z : Type 0} (verb : Verb) (walk : Walk) (words : List (String Z)) → length words < 1 → IsSound verb walk → IsFirstOff (Fits verb walk) (map string_bytes words) 1
no_words_fit verb walk words short sound = no_text (Fits verb walk) words short (ends verb walk sound)

pub stops : (verb : Verb) (walk : Walk) (word : List ℕ) (rest words : Words) → words ≡ word ∷ rest → walked_on verb walk word ≡ None → IsSound verb walk → IsFirstOff (Fits verb walk) words 1
stops verb walk word rest words are none sound = at_once (Fits verb walk) words word rest are (ends verb walk sound) (off verb walk word none)

pub counts_on : (verb : Verb) (walk next : Walk) (word : List ℕ) (rest words : Words) (n : ℕ) → words ≡ word ∷ rest → walked_on verb walk word ≡ Some next → IsSound verb walk → IsFirstOff (Fits verb next) rest n → IsFirstOff (Fits verb walk) words (n + 1)
counts_on verb walk next word rest words n are e sound first = let s = same verb walk word next e sound in later (Fits verb walk) (Fits verb next) words word rest n are s.on s.back first

start_sound : (verb : Verb) → IsSound verb at_start
start_sound verb = record { few = omega arith; free = λ setting e. none_some setting e; own = λ setting e. none_some setting e; bare = λ none. refl }

pub starts : (verb : Verb) (walk : Walk) → walk ≡ at_start → IsSound verb walk
starts verb walk e = subst (IsSound verb) (sym e) (start_sound verb)

-- ---- from walks to forms

may_where : (verb : Verb) (given : Given) → (takes_options verb ≡ false → given ≡ nothing_given) → MayBeGiven verb given
may_where verbs.Mesh given h = tt
may_where verbs.Geom given h = h refl
may_where verbs.Rules given h = h refl
may_where verbs.Check given h = h refl
may_where verbs.View given h = h refl
may_where verbs.Replay given h = h refl
may_where verbs.Gen given h = h refl

pub bare_where : (verb : Verb) (given : Given) → MayBeGiven verb given → takes_options verb ≡ false → given ≡ nothing_given
bare_where verbs.Mesh given h none = absurd cc
bare_where verbs.Geom given h none = h
bare_where verbs.Rules given h none = h
bare_where verbs.Check given h none = h
bare_where verbs.View given h none = h
bare_where verbs.Replay given h none = h
bare_where verbs.Gen given h none = h

-- words that are read so from the start are in the form
pub formed : (verb : Verb) (words places : Words) (given : Given) → reading None nothing_given words ≡ Some (places, given) → length places ≡ place_count verb → (takes_options verb ≡ false → given ≡ nothing_given) → IsForm verb words places given
formed verb words places given read count bare = record {
  reads = reads_from words None nothing_given places given read;
  count = count;
  options = may_where verb given bare;
}

form_fits : (verb : Verb) (words : Words) → IsFormed verb words → Fits verb at_start words
form_fits verb words f = record {
  places = f.0;
  all = f.1;
  read = read_again f.2.reads;
  count = let n = f.2.count in omega arith;
  options = bare_where verb f.1 f.2.options;
}

fits_form : (verb : Verb) (words : Words) → Fits verb at_start words → IsFormed verb words
fits_form verb words fits = (fits.places, fits.all, formed verb words fits.places fits.all fits.read (let n = fits.count in omega arith) fits.options)

pub behind_is : (verb : Verb) (words : Words) (n : ℕ) (walk : Walk) → walk ≡ at_start → IsFirstOff (Fits verb walk) words n → IsFirstOff (IsFormed verb) words n
behind_is verb words n walk e first = alike (Fits verb at_start) (IsFormed verb) words n (fits_form verb) (form_fits verb) (subst (λ (w : Walk). IsFirstOff (Fits verb w) words n) e first)

-- ---- from the words after a verb to a call

behind_verb : (P : Verb → Words → Type 0) (verb : Verb) (rest : Words) → IsVerbAnd P (verb_word verb ∷ rest) → P verb rest
behind_verb P verb rest h = let s = same_start verb h.0 rest h.1 h.2 in
    subst (λ (v : Verb). P v rest) (sym s.0) (subst (λ (ws : Words). P h.0 ws) (sym s.1) h.3)

first_is : (w v : List ℕ) (ws vs : Words) → w ∷ ws ≡ v ∷ vs → w ≡ v
first_is w v ws vs e = cc

pub no_verb : (P : Verb → Words → Type 0) (words : Words) (word : List ℕ) (rest : Words) → words ≡ word ∷ rest → Begins (IsVerbAnd P) [] → ((verb : Verb) → word ≢ verb_word verb) → IsFirstOff (IsVerbAnd P) words 1
no_verb P words word rest are some never = at_once (IsVerbAnd P) words word rest are some (λ more h. never h.0 (first_is word (verb_word h.0) more h.1 h.2))

pub of_verb : (P : Verb → Words → Type 0) (words : Words) (word : List ℕ) (verb : Verb) (rest : Words) (n : ℕ) → words ≡ word ∷ rest → word ≡ verb_word verb → IsFirstOff (P verb) rest n → IsFirstOff (IsVerbAnd P) words (n + 1)
of_verb P words word verb rest n are is first = later (IsVerbAnd P) (P verb) words (verb_word verb) rest n (are ∙ ap (λ (w : List ℕ). w ∷ rest) is) (λ more h. (verb, more, refl, h)) (behind_verb P verb) first

-- no word yet
pub some_call : Begins (IsVerbAnd IsFormed) []
some_call = let e = ends verbs.Geom at_start (start_sound verbs.Geom) in (verb_word verbs.Geom ∷ e.0, (verbs.Geom, e.0, refl, fits_form verbs.Geom e.0 e.1))
