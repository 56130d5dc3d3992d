-- What an option that is set leaves of the words behind it.
use Rattle.std.proofs.Common.{◌≡◌, ◌≢◌, ◌⊎◌, inl, inr, ℕ, Bool, true, false, zero, suc, ◌<◌, ◌≤◌, List, [], ◌∷◌, Some, None, refl, sym, ap, ◌∙◌, subst, arith}
use Rattle.std.specs.Prelude.{option_and_then}
use Rattle.std.specs.Str.{bytes_eq}
use Rattle.std.specs.Cmp.Lexicographic.{bytes_decides}
use Rattle.call_words.specs.declared.settings.Setting.{Setting}
use Rattle.call_words.specs.declared.settings.Setting.TheVariants.{Maxh, Grading, Class, Steps}
use Rattle.call_words.specs.CommandLine.{Reads, AtEnd, PlacesAlone, APlace, TwoWords, OneWord, setting_word, Given, word_given, with_word, nothing_given}
use Rattle.call_words.specs.WordsRead.{word_sort, is_plain_sort, set_called, read_value, reading}
use Rattle.call_words.proofs.WordsRead.{chained, none_some, sets_first, reads_from}

abbrev Text : Type 0
Text = List ℕ

-- another option, which keeps what it is set to
abbrev pub IsOther : Setting → Setting → Type 0
IsOther x y = (bytes_eq (setting_word x) (setting_word y) ≡ false) × ((v : Text) (given : Given) → word_given y (with_word x v given) ≡ word_given y given)

pub same_or_other : (x y : Setting) → (y ≡ x) ⊎ IsOther x y
same_or_other Maxh Maxh = inl refl
same_or_other Maxh Grading = inr (refl, λ v given. refl)
same_or_other Maxh Class = inr (refl, λ v given. refl)
same_or_other Maxh Steps = inr (refl, λ v given. refl)
same_or_other Grading Maxh = inr (refl, λ v given. refl)
same_or_other Grading Grading = inl refl
same_or_other Grading Class = inr (refl, λ v given. refl)
same_or_other Grading Steps = inr (refl, λ v given. refl)
same_or_other Class Maxh = inr (refl, λ v given. refl)
same_or_other Class Grading = inr (refl, λ v given. refl)
same_or_other Class Class = inl refl
same_or_other Class Steps = inr (refl, λ v given. refl)
same_or_other Steps Maxh = inr (refl, λ v given. refl)
same_or_other Steps Grading = inr (refl, λ v given. refl)
same_or_other Steps Class = inr (refl, λ v given. refl)
same_or_other Steps Steps = inl refl

pub word_set : (x : Setting) (v : Text) (given : Given) → word_given x (with_word x v given) ≡ Some v
word_set Maxh v given = refl
word_set Grading v given = refl
word_set Class v given = refl
word_set Steps v given = refl

pub no_word : (x : Setting) → word_given x nothing_given ≡ None
no_word Maxh = refl
no_word Grading = refl
no_word Class = refl
no_word Steps = refl

not_free : (x : Setting) (v w : Text) (given : Given) (y : Setting) → word_given x given ≡ Some v → word_given y given ≡ None → word_given x (with_word y w given) ≡ Some v
not_free x v w given y e free = go (same_or_other y x)
  where
    go : (x ≡ y) ⊎ IsOther y x → word_given x (with_word y w given) ≡ Some v
    go (inl same) = let two : word_given x given ≡ None = subst (λ z. word_given z given ≡ None) (sym same) free in absurd cc
    go (inr o) = o.1 w given ∙ e

pub keeps : {given : Given} {words places : List Text} {all : Given} → Reads given words places all → (x : Setting) (v : Text) → word_given x given ≡ Some v → word_given x all ≡ Some v
keeps (AtEnd given) x v e = e
keeps (PlacesAlone given places) x v e = e
keeps (APlace given word words places all is r) x v e = keeps r x v e
keeps (TwoWords given setting w words places all free is r) x v e = keeps r x v (not_free x v w given setting e free)
keeps (OneWord given setting w words places all free r) x v e = keeps r x v (not_free x v w given setting e free)

-- where an option is set, not nothing is given
pub set_some : (name v : Text) (given : Given) (words places : List Text) (all : Given) → option_and_then (λ now. reading None now words) (set_called name v given) ≡ Some (places, all) → all ≡ nothing_given → ⊥
set_some name v given words places all e nothing =
    let m = chained (λ now. reading None now words) (set_called name v given) (places, all) e in
    let f = sets_first name v given m.0 m.1 in
    let now : word_given f.setting m.0 ≡ Some v = ap (word_given f.setting) f.after ∙ word_set f.setting v given in
    let then : word_given f.setting all ≡ Some v = keeps (reads_from words None m.0 places all m.2) f.setting v now in
    let no : word_given f.setting all ≡ None = ap (word_given f.setting) nothing ∙ no_word f.setting in
    absurd cc

pub set_twice : (x : Setting) (v w : Text) (given : Given) → word_given x given ≡ Some w → set_called (setting_word x) v given ≡ None
set_twice Maxh v w given e = rw e refl
set_twice Grading v w given e = rw e refl
set_twice Class v w given e = rw e refl
set_twice Steps v w given e = rw e refl

-- a name that isn't an option's sets none
pub set_none : (name v : Text) (given : Given) (words places : List Text) (all : Given) → ((x : Setting) → name ≢ setting_word x) → option_and_then (λ now. reading None now words) (set_called name v given) ≡ Some (places, all) → ⊥
set_none name v given words places all un e =
    let m = chained (λ now. reading None now words) (set_called name v given) (places, all) e in
    let f = sets_first name v given m.0 m.1 in
    un f.setting f.called

-- what holds of an option with a value holds of one that waits for it
pub waiting_never : (name : Text) (given : Given) (words places : List Text) (all : Given) → ((v : Text) (later : List Text) → option_and_then (λ now. reading None now later) (set_called name v given) ≡ Some (places, all) → ⊥) → reading (Some name) given words ≡ Some (places, all) → ⊥
unfolding reading
waiting_never name given [] places all h e = none_some (places, all) e
waiting_never name given (word ∷ words) places all h e = go (is_plain_sort (word_sort word)) e
  where
    go : (b : Bool) → read_value b name given word (λ now. reading None now words) ≡ Some (places, all) → ⊥
    go true e = h word words e
    go false e = none_some (places, all) e

-- the option that a name is, where it is one
abbrev pub IsNone : Text → Type 0
IsNone name = (x : Setting) → name ≢ setting_word x

pub which_option : (name : Text) → ((x : Setting) × (name ≡ setting_word x)) ⊎ IsNone name
which_option name = go _ _ _ _ refl refl refl refl
  where
    no : (x : Setting) → bytes_eq name (setting_word x) ≡ false → name ≢ setting_word x
    no x e is = let yes : bytes_eq name (setting_word x) ≡ true = (bytes_decides name (setting_word x)).1 is in absurd cc

    none : bytes_eq name (setting_word Maxh) ≡ false → bytes_eq name (setting_word Grading) ≡ false → bytes_eq name (setting_word Class) ≡ false → bytes_eq name (setting_word Steps) ≡ false → IsNone name
    none m g c s Maxh = no Maxh m
    none m g c s Grading = no Grading g
    none m g c s Class = no Class c
    none m g c s Steps = no Steps s

    go : (m g c s : Bool) → bytes_eq name (setting_word Maxh) ≡ m → bytes_eq name (setting_word Grading) ≡ g → bytes_eq name (setting_word Class) ≡ c → bytes_eq name (setting_word Steps) ≡ s → ((x : Setting) × (name ≡ setting_word x)) ⊎ IsNone name
    go true g c s em eg ec es = inl (Maxh, (bytes_decides name (setting_word Maxh)).0 em)
    go false true c s em eg ec es = inl (Grading, (bytes_decides name (setting_word Grading)).0 eg)
    go false false true s em eg ec es = inl (Class, (bytes_decides name (setting_word Class)).0 ec)
    go false false false true em eg ec es = inl (Steps, (bytes_decides name (setting_word Steps)).0 es)
    go false false false false em eg ec es = inr (none em eg ec es)

pub lt_or_le : (k n : ℕ) → (k < n) ⊎ (n ≤ k)
lt_or_le k zero = inr (omega arith)
lt_or_le zero (suc n) = inl (omega arith)
lt_or_le (suc k) (suc n) = go (lt_or_le k n)
  where
    go : (k < n) ⊎ (n ≤ k) → (suc k < suc n) ⊎ (suc n ≤ suc k)
    go (inl lt) = inl (omega arith)
    go (inr le) = inr (omega arith)
