-- What is read from left to right is what the relation `Reads` says.
use Rattle.std.proofs.Common.{◌≡◌, ◌≢◌, inl, inr, ℕ, Bool, true, false, cond, List, [], ◌∷◌, ◌++◌, Option, Some, None, codes, refl, sym, ◌∙◌, ap, subst, eqb-true}
use Rattle.std.specs.Cmp.Lexicographic.{bytes_decides}
use Rattle.std.specs.Prelude.{option_map, option_and_then, bytes_eq, ◌==◌}
use Rattle.call_words.specs.declared.settings.Setting.{Setting}
use Rattle.call_words.specs.declared.settings.Setting.TheVariants.{Maxh, Grading, Class, Steps}
use Rattle.call_words.specs.CommandLine.{IsPlain, setting_word, Given, word_given, with_word, Reads, AtEnd, PlacesAlone, APlace, TwoWords, OneWord}
use Rattle.call_words.specs.WordsRead.{WordSort, PlainWord, Dashes, Before, With, Other, longer, halves_from, halves, halves_sort, after_dashes, after_dash, word_sort, is_plain_sort, setting_of, set_first, set_called, read_word, read_value, reading}

abbrev Found : Type 0
Found = List (List ℕ) × Given

pub some_of : {A : Type 0} (x y : A) → Some x ≡ Some y → x ≡ y
some_of x y e = cc

pub none_some : {A B : Type 0} (x : A) → None ≡ Some x → B
none_some x e = absurd cc

-- where a function of a value answers, there is a value
pub mapped : {A B : Type 0} (f : A → B) (o : Option A) (y : B) → option_map f o ≡ Some y → (x : A) × (o ≡ Some x) × (f x ≡ y)
mapped f None y e = none_some y e
mapped f (Some x) y e = (x, refl, some_of (f x) y e)

pub chained : {A B : Type 0} (f : A → Option B) (o : Option A) (y : B) → option_and_then f o ≡ Some y → (x : A) × (o ≡ Some x) × (f x ≡ Some y)
chained f None y e = none_some y e
chained f (Some x) y e = (x, refl, e)

-- ---- what a word may be

halves_put_step : (b : ℕ) (bytes front back : List ℕ) (t : Bool) → b == 61 ≡ t → halves_from t b bytes (halves bytes) ≡ Some (front, back) → ((front back : List ℕ) → halves bytes ≡ Some (front, back) → bytes ≡ front ++ 61 ∷ back) → b ∷ bytes ≡ front ++ 61 ∷ back
halves_put_step b bytes front back true t e more =
    let parts : ([], bytes) ≡ (front, back) = some_of ([], bytes) (front, back) e in
    let is : b ≡ 61 = eqb-true b 61 t in
    ap (λ n. n ∷ bytes) is ∙ ap (λ (p : List ℕ × List ℕ). p.0 ++ 61 ∷ p.1) parts
halves_put_step b bytes front back false t e more =
    let m = mapped (longer b) (halves bytes) (front, back) e in
    ap (λ (xs : List ℕ). b ∷ xs) (more m.0.0 m.0.1 m.1) ∙ ap (λ (p : List ℕ × List ℕ). p.0 ++ 61 ∷ p.1) m.2

halves_put : (bytes front back : List ℕ) → halves bytes ≡ Some (front, back) → bytes ≡ front ++ 61 ∷ back
halves_put [] front back e = none_some (front, back) e
halves_put (b ∷ bytes) front back e = halves_put_step b bytes front back (b == 61) refl e (halves_put bytes)

-- what stands behind `--` in a word of each sort
abbrev HasSort : List ℕ → WordSort → Type 0
HasSort bytes PlainWord = ⊥
HasSort bytes Dashes = bytes ≡ []
HasSort bytes (Before name) = bytes ≡ name
HasSort bytes (With name value) = bytes ≡ name ++ 61 ∷ value
HasSort bytes Other = ⊥

after_halves : (bytes : List ℕ) (h : Option (List ℕ × List ℕ)) → halves bytes ≡ h → HasSort bytes (halves_sort bytes h)
after_halves bytes None e = refl
after_halves bytes (Some (front, back)) e = halves_put bytes front back e

after_put : (bytes : List ℕ) → HasSort bytes (after_dashes bytes)
after_put [] = refl
after_put (b ∷ bytes) = after_halves (b ∷ bytes) (halves (b ∷ bytes)) refl

-- the word of each sort
abbrev pub IsSort : List ℕ → WordSort → Type 0
IsSort word PlainWord = IsPlain word
IsSort word Dashes = word ≡ codes "--"
IsSort word (Before name) = word ≡ codes "--" ++ name
IsSort word (With name value) = word ≡ codes "--" ++ name ++ 61 ∷ value
IsSort word Other = Unit {0}

behind_dashes : (bytes : List ℕ) (s : WordSort) → HasSort bytes s → IsSort (45 ∷ 45 ∷ bytes) s
behind_dashes bytes PlainWord h = absurd h
behind_dashes bytes Dashes h = ap (λ (xs : List ℕ). 45 ∷ 45 ∷ xs) h
behind_dashes bytes (Before name) h = ap (λ (xs : List ℕ). 45 ∷ 45 ∷ xs) h
behind_dashes bytes (With name value) h = ap (λ (xs : List ℕ). 45 ∷ 45 ∷ xs) h
behind_dashes bytes Other h = tt

second_dash : (c : ℕ) (bytes : List ℕ) (t : Bool) → c == 45 ≡ t → IsSort (45 ∷ c ∷ bytes) (cond t (after_dashes bytes) Other)
second_dash c bytes true t = rw (eqb-true c 45 t) (behind_dashes bytes (after_dashes bytes) (after_put bytes))
second_dash c bytes false t = tt

first_dash : (bytes : List ℕ) → IsSort (45 ∷ bytes) (after_dash bytes)
first_dash [] = inl refl
first_dash (c ∷ bytes) = second_dash c bytes (c == 45) refl

no_dash : (b : ℕ) (bytes rest : List ℕ) → b == 45 ≡ false → b ∷ bytes ≢ 45 ∷ rest
no_dash b bytes rest t e = let is : b ≡ 45 = cc in let no : b == 45 ≡ true = ap (λ n. n == 45) is in absurd cc

first_byte : (b : ℕ) (bytes : List ℕ) (t : Bool) → b == 45 ≡ t → IsSort (b ∷ bytes) (cond t (after_dash bytes) PlainWord)
first_byte b bytes true t = rw (eqb-true b 45 t) (first_dash bytes)
first_byte b bytes false t = inr (λ rest. no_dash b bytes rest t)

no_bytes : (rest : List ℕ) → [] ≢ 45 ∷ rest
no_bytes rest e = absurd cc

pub word_is : (word : List ℕ) → IsSort word (word_sort word)
word_is [] = inr no_bytes
word_is (b ∷ bytes) = first_byte b bytes (b == 45) refl

plain_byte : (b : ℕ) (bytes : List ℕ) (t : Bool) → b == 45 ≡ t → ((rest : List ℕ) → b ∷ bytes ≢ 45 ∷ rest) → cond t (after_dash bytes) PlainWord ≡ PlainWord
plain_byte b bytes true t h = absurd (h bytes (ap (λ n. n ∷ bytes) (eqb-true b 45 t)))
plain_byte b bytes false t h = refl

undashed_sort : (word : List ℕ) → ((rest : List ℕ) → word ≢ 45 ∷ rest) → word_sort word ≡ PlainWord
undashed_sort [] h = refl
undashed_sort (b ∷ bytes) h = plain_byte b bytes (b == 45) refl h

pub plain_sort : (word : List ℕ) → IsPlain word → word_sort word ≡ PlainWord
plain_sort word (inl e) = ap word_sort e
plain_sort word (inr h) = undashed_sort word h

-- ---- from what is read to the relation

-- the words where an option may wait for its value: then its own word stands before them
abbrev pub ReadsFrom : Option (List ℕ) → Given → List (List ℕ) → List (List ℕ) → Given → Type 0
ReadsFrom None given words places all = Reads given words places all
ReadsFrom (Some name) given words places all = Reads given ((codes "--" ++ name) ∷ words) places all

-- a name that is an option's, and that isn't set yet
pub record SetsFirst (name word : List ℕ) (given now : Given) : Type 0 where
  pub setting : Setting
  pub called : name ≡ setting_word setting
  pub free : word_given setting given ≡ None
  pub after : now ≡ with_word setting word given

called_step : (name : List ℕ) (first setting : Setting) (t : Bool) (next : Option Setting) → bytes_eq name (setting_word first) ≡ t → cond t (Some first) next ≡ Some setting → (next ≡ Some setting → name ≡ setting_word setting) → name ≡ setting_word setting
called_step name first setting true next t e more = (bytes_decides name (setting_word first)).0 t ∙ ap setting_word (some_of first setting e)
called_step name first setting false next t e more = more e

pub called : (name : List ℕ) (setting : Setting) → setting_of name ≡ Some setting → name ≡ setting_word setting
called name setting e =
    called_step name Maxh setting _ _ refl e (λ e.
    called_step name Grading setting _ _ refl e (λ e.
    called_step name Class setting _ _ refl e (λ e.
    called_step name Steps setting _ _ refl e (λ e. none_some setting e))))

first_free : (setting : Setting) (word : List ℕ) (given now : Given) (before : Option (List ℕ)) → set_first setting word given before ≡ Some now → (before ≡ None) × (now ≡ with_word setting word given)
first_free setting word given now None e = (refl, sym (some_of (with_word setting word given) now e))
first_free setting word given now (Some before) e = none_some now e

pub sets_first : (name word : List ℕ) (given now : Given) → set_called name word given ≡ Some now → SetsFirst name word given now
sets_first name word given now e =
    let m = chained (λ setting. set_first setting word given (word_given setting given)) (setting_of name) now e in
    let f = first_free m.0 word given now (word_given m.0 given) m.2 in
    record { setting = m.0; called = called name m.0 m.1; free = f.0; after = f.1 }

spelled : (setting : Setting) (value : List ℕ) → codes "--" ++ setting_word setting ++ 61 ∷ value ≡ codes "--" ++ setting_word setting ++ codes "=" ++ value
spelled Maxh value = refl
spelled Grading value = refl
spelled Class value = refl
spelled Steps value = refl

one_word : (given now : Given) (name value word : List ℕ) (words places : List (List ℕ)) (all : Given) → word ≡ codes "--" ++ name ++ 61 ∷ value → SetsFirst name value given now → Reads now words places all → Reads given (word ∷ words) places all
one_word given now name value word words places all e s r =
    let whole : word ≡ codes "--" ++ setting_word s.setting ++ codes "=" ++ value = e ∙ ap (λ (n : List ℕ). codes "--" ++ n ++ 61 ∷ value) s.called ∙ spelled s.setting value in
    subst (λ (w : List ℕ). Reads given (w ∷ words) places all) (sym whole) (OneWord given s.setting value words places all s.free (subst (λ (g : Given). Reads g words places all) s.after r))

two_words : (given now : Given) (name value : List ℕ) (words places : List (List ℕ)) (all : Given) → IsPlain value → SetsFirst name value given now → Reads now words places all → Reads given ((codes "--" ++ name) ∷ value ∷ words) places all
two_words given now name value words places all plain s r =
    subst (λ (n : List ℕ). Reads given ((codes "--" ++ n) ∷ value ∷ words) places all) (sym s.called) (TwoWords given s.setting value words places all s.free plain (subst (λ (g : Given). Reads g words places all) s.after r))

-- what is read behind a word is so by the relation
abbrev Right : List (List ℕ) → Type 0
Right words = (waits : Option (List ℕ)) (now : Given) (places : List (List ℕ)) (all : Given) → reading waits now words ≡ Some (places, all) → ReadsFrom waits now words places all

word_right : (s : WordSort) (word : List ℕ) (given : Given) (words places : List (List ℕ)) (all : Given) → IsSort word s → read_word s given word words (λ waits now. reading waits now words) ≡ Some (places, all) → Right words → Reads given (word ∷ words) places all
word_right PlainWord word given words places all is e right =
    let m = mapped (λ (found : Found). (word ∷ found.0, found.1)) (reading None given words) (places, all) e in
    let r = right None given m.0.0 m.0.1 m.1 in
    let p : word ∷ m.0.0 ≡ places = ap (λ (f : Found). f.0) m.2 in
    let a : m.0.1 ≡ all = ap (λ (f : Found). f.1) m.2 in
    subst (λ (ps : List (List ℕ)). Reads given (word ∷ words) ps all) p (APlace given word words m.0.0 all is (subst (λ (g : Given). Reads given words m.0.0 g) a r))
word_right Dashes word given words places all is e right =
    let f : (words, given) ≡ (places, all) = some_of (words, given) (places, all) e in
    let p : words ≡ places = ap (λ (f : Found). f.0) f in
    let a : given ≡ all = ap (λ (f : Found). f.1) f in
    subst (λ (w : List ℕ). Reads given (w ∷ words) places all) (sym is) (subst (λ (g : Given). Reads given (codes "--" ∷ words) places g) a (subst (λ (ps : List (List ℕ)). Reads given (codes "--" ∷ words) ps given) p (PlacesAlone given words)))
word_right (Before name) word given words places all is e right = subst (λ (w : List ℕ). Reads given (w ∷ words) places all) (sym is) (right (Some name) given places all e)
word_right (With name value) word given words places all is e right =
    let m = chained (λ now. reading None now words) (set_called name value given) (places, all) e in
    one_word given m.0 name value word words places all is (sets_first name value given m.0 m.1) (right None m.0 places all m.2)
word_right Other word given words places all is e right = none_some (places, all) e

value_right : (b : Bool) (word name : List ℕ) (given : Given) (words places : List (List ℕ)) (all : Given) → (b ≡ true → IsPlain word) → read_value b name given word (λ now. reading None now words) ≡ Some (places, all) → Right words → Reads given ((codes "--" ++ name) ∷ word ∷ words) places all
value_right true word name given words places all is e right =
    let m = chained (λ now. reading None now words) (set_called name word given) (places, all) e in
    two_words given m.0 name word words places all (is refl) (sets_first name word given m.0 m.1) (right None m.0 places all m.2)
value_right false word name given words places all is e right = none_some (places, all) e

pub plain_where : (s : WordSort) (word : List ℕ) → IsSort word s → is_plain_sort s ≡ true → IsPlain word
plain_where PlainWord word is e = is
plain_where Dashes word is e = absurd cc
plain_where (Before name) word is e = absurd cc
plain_where (With name value) word is e = absurd cc
plain_where Other word is e = absurd cc

pub reads_from : (words : List (List ℕ)) → Right words
unfolding reading
reads_from [] None given places all e =
    let f = some_of ([], given) (places, all) e in
    let p : [] ≡ places = ap (λ (f : Found). f.0) f in
    let a : given ≡ all = ap (λ (f : Found). f.1) f in
    subst (λ (g : Given). Reads given [] places g) a (subst (λ (ps : List (List ℕ)). Reads given [] ps given) p (AtEnd given))
reads_from [] (Some name) given places all e = none_some (places, all) e
reads_from (word ∷ words) None given places all e = word_right (word_sort word) word given words places all (word_is word) e (reads_from words)
reads_from (word ∷ words) (Some name) given places all e = value_right (is_plain_sort (word_sort word)) word name given words places all (plain_where (word_sort word) word (word_is word)) e (reads_from words)

-- ---- and back

pub set_free : (setting : Setting) (word : List ℕ) (given : Given) → word_given setting given ≡ None → set_called (setting_word setting) word given ≡ Some (with_word setting word given)
set_free Maxh word given e = rw e refl
set_free Grading word given e = rw e refl
set_free Class word given e = rw e refl
set_free Steps word given e = rw e refl

pub sort_before : (setting : Setting) → word_sort (codes "--" ++ setting_word setting) ≡ Before (setting_word setting)
sort_before Maxh = refl
sort_before Grading = refl
sort_before Class = refl
sort_before Steps = refl

pub sort_with : (setting : Setting) (value : List ℕ) → word_sort (codes "--" ++ setting_word setting ++ codes "=" ++ value) ≡ With (setting_word setting) value
sort_with Maxh value = refl
sort_with Grading value = refl
sort_with Class value = refl
sort_with Steps value = refl

pub read_again : {given : Given} {words places : List (List ℕ)} {all : Given} → Reads given words places all → reading None given words ≡ Some (places, all)
unfolding reading
read_again (AtEnd given) = refl
read_again (PlacesAlone given places) = refl
read_again (APlace given word words places all is r) = rw (plain_sort word is, read_again r) refl
read_again (TwoWords given setting value words places all free is r) = rw (sort_before setting, plain_sort value is, set_free setting value given free) (read_again r)
read_again (OneWord given setting value words places all free r) = rw (sort_with setting value, set_free setting value given free) (read_again r)

-- the words are read in one way at most
pub one_reading : (given : Given) (words places others : List (List ℕ)) (all more : Given) → Reads given words places all → Reads given words others more → (places ≡ others) × (all ≡ more)
one_reading given words places others all more r s =
    let e : (places, all) ≡ (others, more) = some_of (places, all) (others, more) (sym (read_again r) ∙ read_again s) in
    (ap (λ (f : Found). f.0) e, ap (λ (f : Found). f.1) e)
