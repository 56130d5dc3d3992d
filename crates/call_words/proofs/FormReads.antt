-- What `clap` gives for the command of a verb is what is read of its words.
use Rattle.std.proofs.Common.{◌≡◌, ◌≢◌, ◌≤◌, ◌⊎◌, inl, inr, ℕ, Bool, true, false, List, [], ◌∷◌, ◌++◌, map, Some, None, string_bytes, refl, sym, ap, ◌∙◌, subst, arith}
use Rattle.std.specs.Prelude.{slice_get, String, codes}
use Rattle.std.specs.Str.{IsUtf8, chars}
use Rattle.std.specs.Option.{option_copied}
use Rattle.std.proofs.lemmas.Str.{IsUtf8-string_bytes, chars_past_char, encodes-chars, encode_ascii}
use Rattle.std.proofs.Math.Utf8.{encode, encodes}
use Rattle.clap.specs.Words.{App, is_simple, matches_of, rows_of, fault_of, first_of, first_value}
use Rattle.clap.specs.Kinds.{Kinds, IsAmong}
use Rattle.clap.specs.Walk.{nothing_held, rows_after}
use Rattle.clap.specs.Faults.{is_simple_and_free, level_fault}
use Rattle.clap.specs.declared.error.kind.ErrorKind.{ErrorKind}
use Rattle.clap.specs.declared.error.kind.ErrorKind.TheVariants.{OutOfMemory}
use Rattle.clap.specs.declared.parser.matches.Found.{Found}
use Rattle.clap.proofs.WalkLemmas.{first_value-rows}
use Rattle.clap.proofs.FaultLemmas.{leaf_fault}
use Rattle.call_words.specs.declared.command.Verb.{Verb}
use Rattle.call_words.specs.declared.command.Verb.TheVariants as verbs
use Rattle.call_words.specs.declared.settings.Setting.TheVariants.{Maxh, Grading, Class, Steps}
use Rattle.call_words.specs.declared.form.Form.{Form}
use Rattle.call_words.specs.CommandLine.{Given, nothing_given}
use Rattle.call_words.specs.Commands.{place_count}
use Rattle.call_words.specs.WordsRead.{given_of, reading}
use Rattle.call_words.specs.Asks.{place_word, asks}
use Rattle.call_words.specs.Forms.{takes_options, asked_of, Has, IsRead}
use Rattle.call_words.proofs.Uses.{Uses, row, value_for, first_is}
use Rattle.call_words.proofs.Tables.{leaf, whole, rules_of, table}
use Rattle.call_words.proofs.ByClap.{First, AllFirst, Verdict, Agree, verdict}

-- ---- the texts are UTF-8

first_char : (bs : List ℕ) → IsUtf8 bs → First bs
first_char bs u x xs e = go (chars (x ∷ xs)) refl
  where
    go : (cs : List ℕ) → chars (x ∷ xs) ≡ cs → (c : ℕ) × (slice_get (chars (x ∷ xs)) 0 ≡ Some c)
    go (c ∷ cs) is = (c, ap (λ (l : List ℕ). slice_get l 0) is)
    go [] is =
        let one : encode 45 ≡ 45 ∷ [] = encode_ascii 45 (omega arith) in
        let all : chars bs ≡ 45 ∷ [] = chars_past_char bs (x ∷ xs) 45 u (e ∙ ap (λ (l : List ℕ). l ++ x ∷ xs) (sym one)) ∙ ap (λ (l : List ℕ). 45 ∷ l) is in
        let short : 45 ∷ [] ≡ 45 ∷ x ∷ xs = ap (λ (l : List ℕ). l ++ []) (sym one) ∙ ap encodes (sym all) ∙ encodes-chars bs u ∙ e in
        absurd cc

pub first_chars : {Z : Type 0} (words : List (String Z)) → AllFirst (map string_bytes words)
first_chars [] = tt
first_chars (word ∷ words) = (first_char (string_bytes word) (IsUtf8-string_bytes word), first_chars words)

-- ---- each verb

abbrev VerdictOf : ℕ → Bool → List (List ℕ) → Type 0
VerdictOf n opts words = Verdict n opts [] (fault_of (asks n opts) words) (reading None nothing_given words) (matches_of (asks n opts) words)

-- where the command is built with these arguments
by_table : (n : ℕ) (opts : Bool) (words : List (List ℕ)) → n ≤ 4 → AllFirst words → (fault : Kinds) → fault ≡ level_fault (leaf (rules_of n opts)) [] nothing_held words false [] → Verdict n opts [] fault (reading None nothing_given words) (rows_after (rules_of n opts) [] words)
by_table n opts words few firsts fault e = subst (λ (f : Kinds). Verdict n opts [] f (reading None nothing_given words) (rows_after (rules_of n opts) [] words)) (sym e) (verdict (rules_of n opts) n opts (table n opts few) words firsts)

one_verdict : (words : List (List ℕ)) → AllFirst words → VerdictOf 1 false words
one_verdict words firsts = by_table 1 false words (omega arith) firsts (fault_of (asks 1 false) words) (leaf_fault (whole (rules_of 1 false)) nothing_held words refl)

two_verdict : (words : List (List ℕ)) → AllFirst words → VerdictOf 2 false words
two_verdict words firsts = by_table 2 false words (omega arith) firsts (fault_of (asks 2 false) words) (leaf_fault (whole (rules_of 2 false)) nothing_held words refl)

three_verdict : (words : List (List ℕ)) → AllFirst words → VerdictOf 3 false words
three_verdict words firsts = by_table 3 false words (omega arith) firsts (fault_of (asks 3 false) words) (leaf_fault (whole (rules_of 3 false)) nothing_held words refl)

four_verdict : (words : List (List ℕ)) → AllFirst words → VerdictOf 4 true words
four_verdict words firsts = by_table 4 true words (omega arith) firsts (fault_of (asks 4 true) words) (leaf_fault (whole (rules_of 4 true)) nothing_held words refl)

verb_verdict : (verb : Verb) (words : List (List ℕ)) → AllFirst words → VerdictOf (place_count verb) (takes_options verb) words
verb_verdict verbs.Mesh words firsts = four_verdict words firsts
verb_verdict verbs.Geom words firsts = one_verdict words firsts
verb_verdict verbs.Rules words firsts = one_verdict words firsts
verb_verdict verbs.Check words firsts = two_verdict words firsts
verb_verdict verbs.View words firsts = three_verdict words firsts
verb_verdict verbs.Replay words firsts = three_verdict words firsts
verb_verdict verbs.Gen words firsts = two_verdict words firsts

simple_free : (verb : Verb) → is_simple_and_free (asked_of verb) ≡ true
simple_free verbs.Mesh = refl
simple_free verbs.Geom = refl
simple_free verbs.Rules = refl
simple_free verbs.Check = refl
simple_free verbs.View = refl
simple_free verbs.Replay = refl
simple_free verbs.Gen = refl

simple : (verb : Verb) → is_simple (asked_of verb) ≡ true
simple verbs.Mesh = refl
simple verbs.Geom = refl
simple verbs.Rules = refl
simple verbs.Check = refl
simple verbs.View = refl
simple verbs.Replay = refl
simple verbs.Gen = refl

-- ---- what was found

-- the first values that were found
pub record Finds (form : Form) (f : Found) : Type 0 where
  pub first : option_copied form.first ≡ first_value f (place_word 1)
  pub second : option_copied form.second ≡ first_value f (place_word 2)
  pub third : option_copied form.third ≡ first_value f (place_word 3)
  pub fourth : option_copied form.fourth ≡ first_value f (place_word 4)
  pub given : given_of form.settings ≡ record { maxh = first_value f (codes "maxh"); grading = first_value f (codes "grading"); class = first_value f (codes "class"); steps = first_value f (codes "steps") }

has : (form : Form) (f : Found) (us : Uses) (places : List (List ℕ)) (all : Given) → Finds form f → rows_of f ≡ map row us → Agree us places all → Has form places all
has form f us places all finds rows agree = record {
  first = finds.first ∙ value_is (place_word 1) ∙ agree.places 0;
  second = finds.second ∙ value_is (place_word 2) ∙ agree.places 1;
  third = finds.third ∙ value_is (place_word 3) ∙ agree.places 2;
  fourth = finds.fourth ∙ value_is (place_word 4) ∙ agree.places 3;
  given = finds.given ∙ (λ i. record {
    maxh = (value_is (codes "maxh") ∙ agree.options Maxh) i;
    grading = (value_is (codes "grading") ∙ agree.options Grading) i;
    class = (value_is (codes "class") ∙ agree.options Class) i;
    steps = (value_is (codes "steps") ∙ agree.options Steps) i;
  });
}
  where
    value_is : (id : List ℕ) → first_value f id ≡ value_for id us
    value_is id = first_value-rows f id ∙ ap (first_of id) rows ∙ first_is id us

pub form_taken : (verb : Verb) (a : App) (words : List (List ℕ)) (f : Found) (form : Form) → a ≡ asked_of verb → AllFirst words → (is_simple_and_free a ≡ true → fault_of a words ≡ []) → (is_simple a ≡ true → rows_of f ≡ matches_of a words) → Finds form f → IsRead (place_count verb) (takes_options verb) words (Some form)
form_taken verb a words f form is firsts = subst (λ (b : App). (is_simple_and_free b ≡ true → fault_of b words ≡ []) → (is_simple b ≡ true → rows_of f ≡ matches_of b words) → Finds form f → IsRead (place_count verb) (takes_options verb) words (Some form)) (sym is) (λ none rows finds. go (verb_verdict verb words firsts) (none (simple_free verb)) (rows (simple verb)) finds)
  where
    go : VerdictOf (place_count verb) (takes_options verb) words → fault_of (asked_of verb) words ≡ [] → rows_of f ≡ matches_of (asked_of verb) words → Finds form f → IsRead (place_count verb) (takes_options verb) words (Some form)
    go (inl v) none rows finds = (v.places, v.all, v.reads, (v.count, v.bare), has form f v.us v.places v.all finds (rows ∙ v.rows_are) v.agree)
    go (inr v) none rows finds = let bad : [] ≡ v.kind ∷ v.kinds = sym none ∙ v.some in absurd cc

pub form_refused : (verb : Verb) (a : App) (words : List (List ℕ)) (k : ErrorKind) → a ≡ asked_of verb → AllFirst words → k ≢ OutOfMemory → (is_simple_and_free a ≡ true → (k ≡ OutOfMemory) ⊎ IsAmong k (fault_of a words)) → IsRead (place_count verb) (takes_options verb) words None
form_refused verb a words k is firsts other = subst (λ (b : App). (is_simple_and_free b ≡ true → (k ≡ OutOfMemory) ⊎ IsAmong k (fault_of b words)) → IsRead (place_count verb) (takes_options verb) words None) (sym is) (λ fails. go (verb_verdict verb words firsts) (fails (simple_free verb)))
  where
    go : VerdictOf (place_count verb) (takes_options verb) words → (k ≡ OutOfMemory) ⊎ IsAmong k (fault_of (asked_of verb) words) → IsRead (place_count verb) (takes_options verb) words None
    go v (inl memory) = absurd (other memory)
    go (inl v) (inr among) = absurd (subst (IsAmong k) v.none among)
    go (inr v) (inr among) = λ places all reads form. v.never places all reads form.0 form.1
