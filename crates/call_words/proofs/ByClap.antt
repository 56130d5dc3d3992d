-- What `clap` reads of the words after a verb is what is read of them from left to right.
use Rattle.std.proofs.Common.{◌≡◌, ◌≢◌, ◌⊎◌, inl, inr, ℕ, Bool, true, false, zero, suc, cond, not, ◌<◌, ◌≤◌, ◌+◌, ◌==◌, ◌&&◌, ◌||◌, min, List, [], ◌∷◌, ◌++◌, map, length, Option, Some, None, is_some, refl, sym, ap, ◌∙◌, subst, arith, eqb-true}
use Rattle.std.specs.Prelude.{nat_lt, slice_get, drop, take, encode_utf8, option_and_then, option_map}
use Rattle.std.specs.Option.{option_map_or}
use Rattle.std.specs.Str.{bytes_eq, chars}
use Rattle.std.specs.List.{fold, position_or_len}
use Rattle.std.proofs.lemmas.List.{append_assoc}
use Rattle.std.proofs.lemmas.Bool.{cases_eq}
use Rattle.clap.specs.Lexer.{long_of, short_of, usize_max, name_and_value, has_byte, strip_byte, long_of_rest, short_of_rest}
use Rattle.clap.specs.Kinds.{Kinds, or_else}
use Rattle.clap.specs.Walk.{long_or_other, subcommand_or_other, after_flag, long_met, Row, Rule, Text, Held, Walk, Waiting, idle, option, Step, value, trailing, next, settled, walked, walked_from, walk_from, finished, nothing_held, arg_by_id, arg_by_long, arg_by_short, arg_by_index, used, has_row, first_of, with_values, subcommand_met, long_word, short_or_plain, after_step, with_default, pushed, option_met, takes_several, is_pending, to_positional, positional_held}
use Rattle.clap.specs.Walk as clap
use Rattle.clap.specs.Takes.{is_given}
use Rattle.clap.specs.Faults.{flag_word_fault, other_fault, settle_fault, use_fault, walk_fault, turn_fault, step_fault, check_fault, defaults_fault, level_fault, long_fault, bundle_fault, positional_fault, flags_fault, short_fault, bundle_step_fault}
use Rattle.clap.specs.declared.error.kind.ErrorKind.{ErrorKind}
use Rattle.clap.specs.declared.error.kind.ErrorKind.TheVariants.{MissingRequiredArgument, ArgumentConflict, UnknownArgument, InvalidValue}
use Rattle.clap.specs.declared.builder.value_parser.Reading.TheVariants.{AsWritten}
use Rattle.clap.specs.declared.parser.matches.ValueSource.TheVariants.{CommandLine}
use Rattle.call_words.specs.declared.settings.Setting.{Setting}
use Rattle.call_words.specs.declared.settings.Setting.TheVariants.{Maxh, Grading, Class, Steps}
use Rattle.call_words.specs.CommandLine.{setting_word, Given, word_given, with_word, nothing_given}
use Rattle.call_words.specs.WordsRead.{longer, halves, halves_from, halves_sort, after_dash, after_dashes, WordSort, PlainWord, Dashes, Before, With, Other, word_sort, is_plain_sort, set_called, with_place, read_word, read_value, reading}
use Rattle.call_words.specs.Asks.{place_word}
use Rattle.call_words.proofs.Uses.{Uses, row, value_for, has_is, given_is, none_without, none_added, same_text, value_added, value_kept}
use Rattle.call_words.proofs.Tables.{slot, place, flag, leaf, Table, place_no_place, place_no_setting, setting_no_place}
use Rattle.call_words.proofs.Options.{IsOther, same_or_other, word_set, set_some, set_twice, set_none, waiting_never, IsNone, which_option, lt_or_le}
use Rattle.call_words.proofs.WordsRead.{mapped, some_of, none_some, set_free}

-- ---- one use of an argument with one value

new_use : (id : Text) (long : Option Text) (index : Option ℕ) (required : Bool) (v : Text) (us : Uses) → value_for id us ≡ None → use_fault false (slot id long index required) (v ∷ []) (map row us) ≡ []
new_use id long index required v us e = ap (λ (b : Bool). or_else (cond (b && true) (ArgumentConflict ∷ []) []) []) (has_is id us ∙ ap is_some e)

second_use : (id : Text) (long : Option Text) (index : Option ℕ) (required : Bool) (v w : Text) (us : Uses) → value_for id us ≡ Some w → use_fault false (slot id long index required) (v ∷ []) (map row us) ≡ ArgumentConflict ∷ []
second_use id long index required v w us e = ap (λ (b : Bool). or_else (cond (b && true) (ArgumentConflict ∷ []) []) []) (has_is id us ∙ ap is_some e)

used_new : (id : Text) (long : Option Text) (index : Option ℕ) (required : Bool) (v : Text) (us : Uses) → value_for id us ≡ None → used (slot id long index required) (v ∷ []) (map row us) ≡ map row (us ++ (id, v) ∷ [])
used_new id long index required v us e = ap (λ (rs : List Row). with_values id AsWritten CommandLine (v ∷ []) rs) (none_without id us e) ∙ none_added id v us e

-- ---- what the uses say of places and options

pub record Agree (us : Uses) (ps : List Text) (given : Given) : Type 0 where
  pub places : (k : ℕ) → value_for (place_word (suc k)) us ≡ slice_get ps k
  pub options : (x : Setting) → value_for (setting_word x) us ≡ word_given x given

last_got : (ps : List Text) (p : Text) → slice_get (ps ++ p ∷ []) (length ps) ≡ Some p
last_got [] p = refl
last_got (q ∷ ps) p = last_got ps p

other_got : (ps : List Text) (p : Text) (k : ℕ) → k ≢ length ps → slice_get (ps ++ p ∷ []) k ≡ slice_get ps k
other_got [] p zero ne = absurd (ne refl)
other_got [] p (suc k) ne = refl
other_got (q ∷ ps) p zero ne = refl
other_got (q ∷ ps) p (suc k) ne = other_got ps p k (λ e. ne (ap suc e))

none_got : (ps : List Text) → slice_get ps (length ps) ≡ None
none_got [] = refl
none_got (q ∷ ps) = none_got ps

some_got : (ps : List Text) (k : ℕ) → k < length ps → is_some (slice_get ps k) ≡ true
some_got [] k lt = absurd (omega arith)
some_got (q ∷ ps) zero lt = refl
some_got (q ∷ ps) (suc k) lt = some_got ps k (omega arith)

none_agree : Agree [] [] nothing_given
none_agree = record { places = λ k. refl; options = all_none }
  where
    all_none : (x : Setting) → None ≡ word_given x nothing_given
    all_none Maxh = refl
    all_none Grading = refl
    all_none Class = refl
    all_none Steps = refl

new_place : {us : Uses} {ps : List Text} {given : Given} → Agree us ps given → value_for (place_word (suc (length ps))) us ≡ None
new_place {us} {ps} {given} a = a.places (length ps) ∙ none_got ps

place_agrees : {us : Uses} {ps : List Text} {given : Given} (p : Text) → Agree us ps given → Agree (us ++ (place_word (suc (length ps)), p) ∷ []) (ps ++ p ∷ []) given
place_agrees {us} {ps} {given} p a = record { places = λ k. go k (cases_eq k (length ps)); options = λ x. value_kept (place_word (suc (length ps))) (setting_word x) p us (place_no_setting (suc (length ps)) x) ∙ a.options x }
  where
    go : (k : ℕ) → (k ≡ length ps) ⊎ (k ≡ length ps → ⊥) → value_for (place_word (suc k)) (us ++ (place_word (suc (length ps)), p) ∷ []) ≡ slice_get (ps ++ p ∷ []) k
    go k (inl e) = ap (λ j. value_for (place_word (suc j)) (us ++ (place_word (suc (length ps)), p) ∷ [])) e ∙ value_added (place_word (suc (length ps))) p us (new_place a) ∙ sym (ap (slice_get (ps ++ p ∷ [])) e ∙ last_got ps p)
    go k (inr ne) = value_kept (place_word (suc (length ps))) (place_word (suc k)) p us (place_no_place (suc (length ps)) (suc k) (λ e. ne (omega arith))) ∙ a.places k ∙ sym (other_got ps p k ne)

option_agrees : {us : Uses} {ps : List Text} {given : Given} (x : Setting) (v : Text) → word_given x given ≡ None → Agree us ps given → Agree (us ++ (setting_word x, v) ∷ []) ps (with_word x v given)
option_agrees {us} {ps} {given} x v free a = record { places = λ k. value_kept (setting_word x) (place_word (suc k)) v us (setting_no_place x (suc k)) ∙ a.places k; options = λ y. go y (same_or_other x y) }
  where
    go : (y : Setting) → (y ≡ x) ⊎ IsOther x y → value_for (setting_word y) (us ++ (setting_word x, v) ∷ []) ≡ word_given y (with_word x v given)
    go y (inl e) = ap (λ z. value_for (setting_word z) (us ++ (setting_word x, v) ∷ [])) e ∙ value_added (setting_word x) v us (a.options x ∙ free) ∙ sym (ap (λ z. word_given z (with_word x v given)) e ∙ word_set x v given)
    go y (inr o) = value_kept (setting_word x) (setting_word y) v us o.0 ∙ a.options y ∙ sym (o.1 v given)

-- ---- what a word looks like to `clap`

abbrev dashes : Text
dashes = 45 ∷ 45 ∷ []

abbrev Seen : Text → WordSort → Type 0
Seen word PlainWord = (bytes_eq word dashes ≡ false) × (long_of word ≡ None) × (short_of word ≡ None)
Seen word Dashes = bytes_eq word dashes ≡ true
Seen word (Before name) = (bytes_eq word dashes ≡ false) × (long_of word ≡ Some (name, None))
Seen word (With name v) = (bytes_eq word dashes ≡ false) × (long_of word ≡ Some (name, Some v))
Seen word Other = (bytes_eq word dashes ≡ false) × (long_of word ≡ None) × (x : ℕ) × (xs : Text) × (word ≡ 45 ∷ x ∷ xs) × (short_of word ≡ Some (x ∷ xs))

abbrev pair_of : Text → Option (Text × Text) → Text × Option Text
pair_of name None = (name, None)
pair_of name (Some p) = (p.0, Some p.1)

abbrev mk : Text → Option Text → Text × Option Text
mk a o = (a, o)

abbrev grow : ℕ → Text × Option Text → Text × Option Text
grow b q = mk (b ∷ q.0) q.1

pair_is : (bytes : Text) → name_and_value bytes ≡ pair_of bytes (halves bytes)
pair_is [] = refl
pair_is (b ∷ bytes) = step (b == 61) (position_or_len (λ x. x == 61) bytes) ∙ go (b == 61) (halves bytes) (pair_is bytes)
  where
    longer_pair : (h : Option (Text × Text)) → grow b (pair_of bytes h) ≡ pair_of (b ∷ bytes) (option_map (longer b) h)
    longer_pair None = refl
    longer_pair (Some p) = refl

    step : (f : Bool) (n : ℕ) → mk (take (cond (not f) (1 + n) 0) (b ∷ bytes)) (cond (f || has_byte 61 bytes) (Some (drop (cond (not f) (1 + n) 0 + 1) (b ∷ bytes))) None)
        ≡ cond f (mk [] (Some bytes)) (mk (b ∷ take n bytes) (cond (has_byte 61 bytes) (Some (drop (n + 1) bytes)) None))
    step true n = refl
    step false n =
        let one : 1 + n ≡ suc n = omega arith in
        let two : 1 + n + 1 ≡ suc (n + 1) = omega arith in
        λ i. mk (take (one i) (b ∷ bytes)) (cond (has_byte 61 bytes) (Some (drop (two i) (b ∷ bytes))) None)

    go : (f : Bool) (h : Option (Text × Text)) → name_and_value bytes ≡ pair_of bytes h → cond f (mk [] (Some bytes)) (grow b (name_and_value bytes)) ≡ pair_of (b ∷ bytes) (halves_from f b bytes h)
    go true h e = refl
    go false h e = ap (grow b) e ∙ longer_pair h

long_seen : (bytes : Text) (h : Option (Text × Text)) → halves bytes ≡ h → long_of_rest bytes ≡ Some (pair_of bytes h) → Seen (45 ∷ 45 ∷ bytes) (halves_sort bytes h)
long_seen [] h e l = absurd cc
long_seen (b ∷ bytes) None e l = (refl, l)
long_seen (b ∷ bytes) (Some p) e l = (refl, l)

after_seen : (bytes : Text) → Seen (45 ∷ 45 ∷ bytes) (after_dashes bytes)
after_seen [] = refl
after_seen (b ∷ bytes) = long_seen (b ∷ bytes) (halves (b ∷ bytes)) refl (ap (λ (q : Text × Option Text). Some q) (pair_is (b ∷ bytes)))

second_seen : (c : ℕ) (bytes : Text) (t : Bool) → c == 45 ≡ t → Seen (45 ∷ c ∷ bytes) (cond t (after_dashes bytes) Other)
second_seen c bytes true t = rw (eqb-true c 45 t) (after_seen bytes)
second_seen c bytes false t = (ap (λ b. b && bytes_eq bytes []) t, ap (λ b. option_and_then long_of_rest (cond b (Some bytes) None)) t, c, bytes, refl, ap (λ b. cond b None (Some (c ∷ bytes))) t)

dash_seen : (bytes : Text) → Seen (45 ∷ bytes) (after_dash bytes)
dash_seen [] = (refl, refl, refl)
dash_seen (c ∷ bytes) = second_seen c bytes (c == 45) refl

first_seen : (b : ℕ) (bytes : Text) (t : Bool) → b == 45 ≡ t → Seen (b ∷ bytes) (cond t (after_dash bytes) PlainWord)
first_seen b bytes true t = rw (eqb-true b 45 t) (dash_seen bytes)
first_seen b bytes false t = (ap (λ f. f && bytes_eq bytes (45 ∷ [])) t, ap (λ f. option_and_then long_of_rest (option_and_then (strip_byte 45) (cond f (Some bytes) None))) t, ap (λ f. option_and_then short_of_rest (cond f (Some bytes) None)) t)

word_seen : (word : Text) → Seen word (word_sort word)
word_seen [] = (refl, refl, refl)
word_seen (b ∷ bytes) = first_seen b bytes (b == 45) refl

-- ---- verdicts

-- `clap` refuses nothing, and what it holds is what is read
pub record Taken (n : ℕ) (opts : Bool) (ps : List Text) (fault : Kinds) (found : Option (List Text × Given)) (rows : List Row) : Type 0 where
  pub places : List Text
  pub all : Given
  pub us : Uses
  pub none : fault ≡ []
  pub reads : found ≡ Some (places, all)
  pub count : length (ps ++ places) ≡ n
  pub bare : opts ≡ false → all ≡ nothing_given
  pub rows_are : rows ≡ map row us
  pub agree : Agree us (ps ++ places) all

-- `clap` refuses, and no reading is in the form
pub record Refused (n : ℕ) (opts : Bool) (ps : List Text) (fault : Kinds) (found : Option (List Text × Given)) : Type 0 where
  pub kind : ErrorKind
  pub kinds : Kinds
  pub some : fault ≡ kind ∷ kinds
  pub never : (places : List Text) (all : Given) → found ≡ Some (places, all) → length (ps ++ places) ≡ n → (opts ≡ false → all ≡ nothing_given) → ⊥

abbrev pub Verdict : ℕ → Bool → List Text → Kinds → Option (List Text × Given) → List Row → Type 0
Verdict n opts ps fault found rows = Taken n opts ps fault found rows ⊎ Refused n opts ps fault found

joined : (ps : List Text) (p : Text) (places : List Text) → (ps ++ p ∷ []) ++ places ≡ ps ++ p ∷ places
joined ps p places = append_assoc ps (p ∷ []) places

ends : (ps : List Text) → ps ++ [] ≡ ps
ends [] = refl
ends (p ∷ ps) = ap (λ (xs : List Text). p ∷ xs) (ends ps)

long_sum : (ps : List Text) (p : Text) (places : List Text) → length (ps ++ p ∷ places) ≡ suc (length ps + length places)
long_sum [] p places = omega arith
long_sum (q ∷ ps) p places = let more = long_sum ps p places in omega arith

one_more : (ps : List Text) (p : Text) → length (ps ++ p ∷ []) ≡ suc (length ps)
one_more [] p = refl
one_more (q ∷ ps) p = ap suc (one_more ps p)

too_many : (n : ℕ) (ps : List Text) (p : Text) (places : List Text) → n ≤ length ps → length (ps ++ p ∷ places) ≡ n → ⊥
too_many n ps p places le e = let sum = long_sum ps p places in absurd (omega arith)

placed : (n : ℕ) (opts : Bool) (ps : List Text) (p : Text) (fault : Kinds) (found : Option (List Text × Given)) (rows : List Row) → Verdict n opts (ps ++ p ∷ []) fault found rows → Verdict n opts ps fault (with_place p found) rows
placed n opts ps p fault found rows (inl v) = inl (record {
  places = p ∷ v.places;
  all = v.all;
  us = v.us;
  none = v.none;
  reads = ap (with_place p) v.reads;
  count = ap length (sym (joined ps p v.places)) ∙ v.count;
  bare = v.bare;
  rows_are = v.rows_are;
  agree = subst (λ (xs : List Text). Agree v.us xs v.all) (joined ps p v.places) v.agree;
})
placed n opts ps p fault found rows (inr v) = inr (record {
  kind = v.kind;
  kinds = v.kinds;
  some = v.some;
  never = λ places all e count bare.
      let m = mapped (λ (f : List Text × Given). (p ∷ f.0, f.1)) found (places, all) e in
      let ps_are : p ∷ m.0.0 ≡ places = ap (λ (f : List Text × Given). f.0) m.2 in
      let all_is : m.0.1 ≡ all = ap (λ (f : List Text × Given). f.1) m.2 in
      v.never m.0.0 m.0.1 m.1 (ap length (joined ps p m.0.0) ∙ ap (λ (xs : List Text). length (ps ++ xs)) ps_are ∙ count) (λ o. all_is ∙ bare o);
})

-- ---- the walk of `clap`

abbrev IsSome : Kinds → Type 0
IsSome fault = (k : ErrorKind) × (ks : Kinds) × (fault ≡ k ∷ ks)

some_else : (a b : Kinds) → IsSome a → IsSome (or_else a b)
some_else a b h = (h.0, _, ap (λ f. or_else f b) h.2)

else_assoc : (a b c : Kinds) → or_else (or_else a b) c ≡ or_else a (or_else b c)
else_assoc [] b c = refl
else_assoc (k ∷ ks) b c = refl

abbrev at : Held → Waiting → ℕ → Bool → Walk
at h waits position tr = record { held = h; waiting = waits; position = position; is_trailing = tr; stopped = None }

no_subcommand : (waits : Waiting) (word : Text) → subcommand_met [] waits word ≡ None
no_subcommand idle word = refl
no_subcommand (option id) word = refl
no_subcommand clap.positional word = refl

-- a word that begins with `-` has a character after it
abbrev pub First : Text → Type 0
First word = (x : ℕ) (xs : Text) → word ≡ 45 ∷ x ∷ xs → (c : ℕ) × (slice_get (chars (x ∷ xs)) 0 ≡ Some c)

abbrev pub AllFirst : List Text → Type 0
AllFirst [] = Unit {0}
AllFirst (word ∷ words) = First word × AllFirst words

module _ (rs : List Rule) (n : ℕ) (opts : Bool) (t : Table rs n opts) where
  abbrev tail : Held → Kinds
  tail e = or_else (settle_fault rs false e) (or_else (defaults_fault (settled rs e).rows rs) (check_fault (leaf rs) (finished rs e) false))

  abbrev pub rest : Walk → List Text → Kinds
  rest w words = or_else (walk_fault (leaf rs) [] w words) (tail (fold (walked rs []) w words).held)

  abbrev pub rows_end : Walk → List Text → List Row
  rows_end w words = finished rs (fold (walked rs []) w words).held

  rest_cons : (w : Walk) (word : Text) (words : List Text) → rest w (word ∷ words) ≡ or_else (turn_fault (leaf rs) [] w word) (rest (walked rs [] w word) words)
  unfolding walk_fault
  rest_cons w word words = else_assoc (turn_fault (leaf rs) [] w word) (walk_fault (leaf rs) [] (walked rs [] w word) words) (tail (fold (walked rs []) (walked rs [] w word) words).held)

  rest_nil : (w : Walk) → rest w [] ≡ tail w.held
  unfolding walk_fault
  rest_nil w = refl

  -- what a word does: how it fails, and where the walk stands behind it
  abbrev move : Walk → Text → Kinds × Walk
  move w word = (turn_fault (leaf rs) [] w word, walked rs [] w word)

  abbrev by_met : Walk → Text → Kinds → Held × Step → Kinds × Walk
  by_met w word fault met = (or_else fault (step_fault (leaf rs) w.position met.0 met.1), after_step rs word w met.0 met.1)

  by_subcommand : (h : Held) (waits : Waiting) (position : ℕ) (word : Text) → move (at h waits position false) word
      ≡ by_met (at h waits position false) word (cond (bytes_eq word dashes) [] (flag_word_fault rs false (long_of word) word h)) (cond (bytes_eq word dashes) (h, trailing position) (long_or_other rs waits word (long_of word) h))
  unfolding walked
  by_subcommand h waits position word = λ i. by_met (at h waits position false) word (other_fault (leaf rs) (no_subcommand waits word i) word h) (subcommand_or_other rs (no_subcommand waits word i) waits position word h)

  -- the outcome by the sort of the word
  abbrev by_option : Walk → Text → Option Rule → Option Text → Kinds × Walk
  by_option w word o v = by_met w word (long_fault rs false o v w.held) (after_flag rs w.waiting word (long_met rs o v w.held).0 (long_met rs o v w.held).1)

  abbrev by_short_word : Walk → Text → Option Text → Kinds × Walk
  by_short_word w word sh = by_met w word (option_map_or (λ flags. bundle_fault rs false flags w.held) sh []) (short_or_plain rs w.waiting word sh w.held)

  move_dashes : (h : Held) (waits : Waiting) (position : ℕ) (word : Text) → bytes_eq word dashes ≡ true → move (at h waits position false) word ≡ ([], at h waits position true)
  move_dashes h waits position word d = by_subcommand h waits position word ∙ (λ i. by_met (at h waits position false) word (cond (d i) [] (flag_word_fault rs false (long_of word) word h)) (cond (d i) (h, trailing position) (long_or_other rs waits word (long_of word) h)))

  move_long : (h : Held) (waits : Waiting) (position : ℕ) (word name : Text) (v : Option Text) (o : Option Rule) → bytes_eq word dashes ≡ false → long_of word ≡ Some (name, v) → arg_by_long rs name ≡ o → move (at h waits position false) word ≡ by_option (at h waits position false) word o v
  move_long h waits position word name v o d l is = by_subcommand h waits position word ∙ (λ i. by_met (at h waits position false) word (cond (d i) [] (flag_word_fault rs false (l i) word h)) (cond (d i) (h, trailing position) (long_or_other rs waits word (l i) h))) ∙ ap (λ a. by_option (at h waits position false) word a v) is

  move_short : (h : Held) (waits : Waiting) (position : ℕ) (word : Text) (sh : Option Text) → bytes_eq word dashes ≡ false → long_of word ≡ None → short_of word ≡ sh → move (at h waits position false) word ≡ by_short_word (at h waits position false) word sh
  move_short h waits position word sh d l is = by_subcommand h waits position word ∙ (λ i. by_met (at h waits position false) word (cond (d i) [] (flag_word_fault rs false (l i) word h)) (cond (d i) (h, trailing position) (long_or_other rs waits word (l i) h))) ∙ ap (by_short_word (at h waits position false) word) is

  -- a word that is refused, and one that isn't
  fails : (w : Walk) (word : Text) (words ps : List Text) (found : Option (List Text × Given)) → IsSome (turn_fault (leaf rs) [] w word) → ((places : List Text) (all : Given) → found ≡ Some (places, all) → length (ps ++ places) ≡ n → (opts ≡ false → all ≡ nothing_given) → ⊥) → Verdict n opts ps (rest w (word ∷ words)) found (rows_end w (word ∷ words))
  fails w word words ps found h never = inr (record { kind = h.0; kinds = _; some = rest_cons w word words ∙ ap (λ f. or_else f (rest (walked rs [] w word) words)) h.2; never = never })

  abbrev at_end : Kinds → List Row → Kinds × List Row
  at_end fault rows = (fault, rows)

  behind : (w w' : Walk) (word : Text) (words : List Text) → move w word ≡ ([], w') → at_end (rest w (word ∷ words)) (rows_end w (word ∷ words)) ≡ at_end (rest w' words) (rows_end w' words)
  behind w w' word words m = λ i. at_end ((rest_cons w word words ∙ (λ j. or_else (m j).0 (rest (m j).1 words))) i) (rows_end (m i).1 words)

  goes_on : (w w' : Walk) (word : Text) (words ps : List Text) (found : Option (List Text × Given)) → move w word ≡ ([], w') → Verdict n opts ps (rest w' words) found (rows_end w' words) → Verdict n opts ps (rest w (word ∷ words)) found (rows_end w (word ∷ words))
  goes_on w w' word words ps found m v = subst (λ (q : Kinds × List Row). Verdict n opts ps q.0 found q.1) (sym (behind w w' word words m)) v

  fails_behind : (w w' : Walk) (word : Text) (words : List Text) → move w word ≡ ([], w') → IsSome (rest w' words) → IsSome (rest w (word ∷ words))
  fails_behind w w' word words m h = (h.0, h.1, ap (λ (q : Kinds × List Row). q.0) (behind w w' word words m) ∙ h.2)

  -- ---- what is held between two words

  -- what is pending passes, and with it these are the uses
  record Holds (h : Held) (us : Uses) : Type 0 where
    quiet : settle_fault rs false h ≡ []
    rows : (settled rs h).rows ≡ map row us
    skip : h.skip ≡ 0

  abbrev with_pending : List Row → Text → List Text → ℕ → Held
  with_pending rows id vs skip = record { rows = rows; pending = Some (id, vs); skip = skip }

  by_id_fault : (rows : List Row) (id : Text) (vs : List Text) (skip : ℕ) (a : Rule) → arg_by_id rs id ≡ Some a → settle_fault rs false (with_pending rows id vs skip) ≡ use_fault false a vs rows
  by_id_fault rows id vs skip a is = ap (λ o. option_map_or (λ (b : Rule). use_fault false b vs rows) o []) is

  pending_holds : (rows : List Row) (us : Uses) (id : Text) (long : Option Text) (index : Option ℕ) (required : Bool) (v : Text) (skip : ℕ) → arg_by_id rs id ≡ Some (slot id long index required) → rows ≡ map row us → value_for id us ≡ None → skip ≡ 0 → Holds (with_pending rows id (v ∷ []) skip) (us ++ (id, v) ∷ [])
  pending_holds rows us id long index required v skip is are e z = record {
    quiet = by_id_fault rows id (v ∷ []) skip (slot id long index required) is ∙ ap (use_fault false (slot id long index required) (v ∷ [])) are ∙ new_use id long index required v us e;
    rows = ap (λ o. clap.used_by_id o (v ∷ []) rows) is ∙ ap (used (slot id long index required) (v ∷ [])) are ∙ used_new id long index required v us e;
    skip = z;
  }

  abbrev asking : List Row → Setting → ℕ → Held
  asking rows x skip = with_pending rows (setting_word x) [] skip

  asking_fails : (rows : List Row) (x : Setting) (skip : ℕ) → opts ≡ true → settle_fault rs false (asking rows x skip) ≡ InvalidValue ∷ []
  asking_fails rows x skip o = by_id_fault rows (setting_word x) [] skip (flag x) (t.flag_id x o)

  -- ---- a word that goes to a place

  abbrev by_value : Walk → Text → Option Rule → Kinds × Walk
  by_value w word o = (option_map_or (λ a. positional_fault rs false a w.held) o (UnknownArgument ∷ []), to_positional rs o word w w.held)

  move_value : (h : Held) (position : ℕ) (word : Text) → bytes_eq word dashes ≡ false → long_of word ≡ None → short_of word ≡ None → move (at h idle position false) word ≡ by_value (at h idle position false) word (arg_by_index rs position)
  move_value h position word d l sh = move_short h idle position word None d l sh

  move_trailing : (h : Held) (waits : Waiting) (position : ℕ) (word : Text) → move (at h waits position true) word ≡ by_value (at h waits position true) word (arg_by_index rs position)
  unfolding walked
  move_trailing h waits position word = refl

  -- no place is left
  value_fails : (w : Walk) (word : Text) (k : ℕ) → move w word ≡ by_value w word (arg_by_index rs (suc k)) → n ≤ k → IsSome (turn_fault (leaf rs) [] w word)
  value_fails w word k m le = (UnknownArgument, [], ap (λ (q : Kinds × Walk). q.0) (m ∙ ap (by_value w word) (t.past k le)))

  abbrev placed_held : Held → Text → Text → Held
  placed_held h id word = with_pending (settled rs h).rows id (word ∷ []) h.skip

  value_goes : (h : Held) (waits : Waiting) (tr : Bool) (word : Text) (k : ℕ) → move (at h waits (suc k) tr) word ≡ by_value (at h waits (suc k) tr) word (arg_by_index rs (suc k)) → k < n → settle_fault rs false h ≡ [] → move (at h waits (suc k) tr) word ≡ ([], at (placed_held h (place_word (suc k)) word) idle (suc (suc k)) tr)
  value_goes h waits tr word k m lt quiet =
      m ∙ ap (by_value (at h waits (suc k) tr) word) (t.by_index k lt) ∙ (λ i. (
        (cut (is_pending (place (suc k)) h.pending) [] (settle_fault rs false h) ∙ quiet) i,
        record {
          held = pushed (place_word (suc k)) word (cut (is_pending (place (suc k)) h.pending) h (settled rs h) i);
          waiting = idle;
          position = next_is i;
          is_trailing = same tr i;
          stopped = None;
        },
      ))
    where
      cut : {A : Type 0} (b : Bool) (x y : A) → cond (b && false) x y ≡ y
      cut true x y = refl
      cut false x y = refl

      same : (b : Bool) → (b || false) ≡ b
      same true = refl
      same false = refl

      next_is : min (suc k + 1) usize_max ≡ suc (suc k)
      next_is = let few = t.few in omega arith

  -- where what is pending is refused, so are the words, whatever follows
  value_doomed : (w : Walk) (word : Text) (k : ℕ) → move w word ≡ by_value w word (arg_by_index rs (suc k)) → IsSome (settle_fault rs false w.held) → IsSome (turn_fault (leaf rs) [] w word)
  value_doomed w word k m h = go (lt_or_le k n)
    where
      go : (k < n) ⊎ (n ≤ k) → IsSome (turn_fault (leaf rs) [] w word)
      go (inl lt) = (h.0, h.1, ap (λ (q : Kinds × Walk). q.0) (m ∙ ap (by_value w word) (t.by_index k lt)) ∙ cut (is_pending (place (suc k)) w.held.pending) (settle_fault rs false w.held) ∙ h.2)
        where
          cut : (b : Bool) (y : Kinds) → cond (b && false) [] y ≡ y
          cut true y = refl
          cut false y = refl
      go (inr le) = value_fails w word k m le

  tail_doomed : (h : Held) → IsSome (settle_fault rs false h) → IsSome (tail h)
  tail_doomed h s = some_else (settle_fault rs false h) _ s

  trailing_doomed : (words : List Text) (h : Held) (waits : Waiting) (k : ℕ) → IsSome (settle_fault rs false h) → IsSome (rest (at h waits (suc k) true) words)
  trailing_doomed [] h waits k s = subst IsSome (sym (rest_nil (at h waits (suc k) true))) (tail_doomed h s)
  trailing_doomed (word ∷ words) h waits k s = subst IsSome (sym (rest_cons (at h waits (suc k) true) word words)) (some_else _ _ (value_doomed (at h waits (suc k) true) word k (move_trailing h waits (suc k) word) s))

  -- a word with one dash is refused
  short_fails : (h : Held) (waits : Waiting) (position : ℕ) (word : Text) → h.skip ≡ 0 → First word → Seen word Other → IsSome (turn_fault (leaf rs) [] (at h waits position false) word)
  unfolding flags_fault
  short_fails h waits position word z first seen =
      let x : ℕ = seen.2 in
      let xs : Text = seen.3 in
      let c = first x xs seen.4 in
      let m = move_short h waits position word (Some (x ∷ xs)) seen.0 seen.1 seen.5 in
      let f : bundle_fault rs false (x ∷ xs) h ≡ UnknownArgument ∷ [] = bundle c.0 x xs c.1 in
      subst IsSome (sym (ap (λ (q : Kinds × Walk). q.0) m)) (some_else (bundle_fault rs false (x ∷ xs) h) _ (UnknownArgument, [], f))
    where
      bundle : (c x : ℕ) (xs : Text) → slice_get (chars (x ∷ xs)) 0 ≡ Some c → bundle_fault rs false (x ∷ xs) h ≡ UnknownArgument ∷ []
      bundle c x xs e =
          let h0 : Held = record h { skip = 0 } in
          let more : Text → ℕ → Held → Kinds = flags_fault rs false (length xs) in
          (λ i. bundle_step_fault rs false (e i) (x ∷ xs) (z i) h0 more) ∙ ap (λ o. short_fault rs false o (drop (length (encode_utf8 c)) (x ∷ xs)) h0 (more (drop (length (encode_utf8 c)) (x ∷ xs)) 0)) (t.by_short c)

  -- a name that no option of the command has
  abbrev Stranger : Text → Type 0
  Stranger name = (arg_by_long rs name ≡ None) × (IsNone name ⊎ (opts ≡ false))

  find_long : (name : Text) → ((x : Setting) × (opts ≡ true) × (name ≡ setting_word x)) ⊎ Stranger name
  find_long name = go (which_option name) opts refl
    where
      go : ((x : Setting) × (name ≡ setting_word x)) ⊎ IsNone name → (o : Bool) → opts ≡ o → ((x : Setting) × (opts ≡ true) × (name ≡ setting_word x)) ⊎ Stranger name
      go (inl p) true e = inl (p.0, e, p.1)
      go (inl p) false e = inr (t.no_long name (λ x o. absurd cc), inr e)
      go (inr un) o e = inr (t.no_long name (λ x _. un x), inl un)

  stranger_fails : (h : Held) (waits : Waiting) (position : ℕ) (word name : Text) (v : Option Text) → bytes_eq word dashes ≡ false → long_of word ≡ Some (name, v) → arg_by_long rs name ≡ None → IsSome (turn_fault (leaf rs) [] (at h waits position false) word)
  stranger_fails h waits position word name v d l none = (UnknownArgument, [], ap (λ (q : Kinds × Walk). q.0) (move_long h waits position word name v None d l none))

  -- an option's word where what is pending is refused
  long_doomed : (h : Held) (waits : Waiting) (position : ℕ) (word name : Text) (v : Option Text) → bytes_eq word dashes ≡ false → long_of word ≡ Some (name, v) → IsSome (settle_fault rs false h) → IsSome (turn_fault (leaf rs) [] (at h waits position false) word)
  long_doomed h waits position word name v d l s = go (find_long name)
    where
      known : (x : Setting) (v : Option Text) → IsSome (by_option (at h waits position false) word (Some (flag x)) v).0
      known x None = some_else (settle_fault rs false h) _ s
      known x (Some u) = some_else (or_else (settle_fault rs false h) (use_fault false (flag x) (u ∷ []) (settled rs h).rows)) _ (some_else (settle_fault rs false h) _ s)

      go : ((x : Setting) × (opts ≡ true) × (name ≡ setting_word x)) ⊎ Stranger name → IsSome (turn_fault (leaf rs) [] (at h waits position false) word)
      go (inl p) = subst IsSome (sym (ap (λ (q : Kinds × Walk). q.0) (move_long h waits position word name v (Some (flag p.0)) d l (ap (arg_by_long rs) p.2 ∙ t.by_long p.0 p.1)))) (known p.0 v)
      go (inr none) = stranger_fails h waits position word name v d l none.0

  idle_doomed : (words : List Text) → AllFirst words → (h : Held) (k : ℕ) → h.skip ≡ 0 → IsSome (settle_fault rs false h) → IsSome (rest (at h idle (suc k) false) words)
  idle_doomed [] firsts h k z s = subst IsSome (sym (rest_nil (at h idle (suc k) false))) (tail_doomed h s)
  idle_doomed (word ∷ words) firsts h k z s = go (word_sort word) (word_seen word)
    where
      turned : IsSome (turn_fault (leaf rs) [] (at h idle (suc k) false) word) → IsSome (rest (at h idle (suc k) false) (word ∷ words))
      turned f = subst IsSome (sym (rest_cons (at h idle (suc k) false) word words)) (some_else _ _ f)

      go : (so : WordSort) → Seen word so → IsSome (rest (at h idle (suc k) false) (word ∷ words))
      go PlainWord seen = turned (value_doomed (at h idle (suc k) false) word k (move_value h (suc k) word seen.0 seen.1 seen.2) s)
      go Dashes seen = fails_behind (at h idle (suc k) false) (at h idle (suc k) true) word words (move_dashes h idle (suc k) word seen) (trailing_doomed words h idle k s)
      go (Before name) seen = turned (long_doomed h idle (suc k) word name None seen.0 seen.1 s)
      go (With name v) seen = turned (long_doomed h idle (suc k) word name (Some v) seen.0 seen.1 s)
      go Other seen = turned (short_fails h idle (suc k) word z firsts.0 seen)

  -- ---- the words that are left

  end_verdict : (ps : List Text) (us : Uses) (given : Given) (h : Held) (waits : Waiting) (tr : Bool) → Holds h us → Agree us ps given → length ps ≤ n → (opts ≡ false → given ≡ nothing_given) → Verdict n opts ps (rest (at h waits (suc (length ps)) tr) []) (Some ([], given)) (rows_end (at h waits (suc (length ps)) tr) [])
  end_verdict ps us given h waits tr holds a le bare = go (lt_or_le (length ps) n)
    where
      final : finished rs h ≡ map row us
      final = t.same_rows (settled rs h).rows ∙ holds.rows

      fault_is : (ks : Kinds) → check_fault (leaf rs) (map row us) false ≡ ks → rest (at h waits (suc (length ps)) tr) [] ≡ ks
      fault_is ks e = rest_nil (at h waits (suc (length ps)) tr) ∙ (λ i. or_else (holds.quiet i) (or_else (t.no_defaults (settled rs h).rows i) (check_fault (leaf rs) (final i) false))) ∙ e

      given_place : (k : ℕ) → k < n → n ≤ length ps → is_given (place_word (suc k)) (map row us) ≡ true
      given_place k lt many = given_is (place_word (suc k)) us ∙ ap is_some (a.places k) ∙ some_got ps k (omega arith)

      go : (length ps < n) ⊎ (n ≤ length ps) → Verdict n opts ps (rest (at h waits (suc (length ps)) tr) []) (Some ([], given)) (rows_end (at h waits (suc (length ps)) tr) [])
      go (inl lt) = inr (record {
        kind = MissingRequiredArgument;
        kinds = [];
        some = fault_is (MissingRequiredArgument ∷ []) (t.short (map row us) (length ps) lt (given_is (place_word (suc (length ps))) us ∙ ap is_some (new_place a)));
        never = λ places all e count b.
            let same : [] ≡ places = ap (λ (f : List Text × Given). f.0) (some_of ([], given) (places, all) e) in
            let c : length ps ≡ n = ap length (sym (ends ps)) ∙ ap (λ (xs : List Text). length (ps ++ xs)) same ∙ count in
            absurd (omega arith);
      })
      go (inr many) = inl (record {
        places = [];
        all = given;
        us = us;
        none = fault_is [] (t.full (map row us) (λ k lt. given_place k lt many));
        reads = refl;
        count = ap length (ends ps) ∙ (omega arith);
        bare = bare;
        rows_are = final;
        agree = subst (λ (xs : List Text). Agree us xs given) (sym (ends ps)) a;
      })

  -- the state behind a place
  place_held : (h : Held) (us : Uses) (ps : List Text) (given : Given) (word : Text) → Holds h us → Agree us ps given → length ps < n → Holds (placed_held h (place_word (suc (length ps))) word) (us ++ (place_word (suc (length ps)), word) ∷ [])
  place_held h us ps given word holds a lt = pending_holds (settled rs h).rows us (place_word (suc (length ps))) None (Some (suc (length ps))) true word h.skip (t.place_id (length ps) lt) holds.rows (new_place a) holds.skip

  -- a word that is a place, before the words behind it
  place_verdict : (h : Held) (waits : Waiting) (tr : Bool) (us : Uses) (ps : List Text) (given : Given) (word : Text) (words : List Text) (found : Option (List Text × Given)) → Holds h us → Agree us ps given → length ps ≤ n
      → move (at h waits (suc (length ps)) tr) word ≡ by_value (at h waits (suc (length ps)) tr) word (arg_by_index rs (suc (length ps)))
      → ((h' : Held) (us' : Uses) → Holds h' us' → Agree us' (ps ++ word ∷ []) given → length (ps ++ word ∷ []) ≤ n → Verdict n opts (ps ++ word ∷ []) (rest (at h' idle (suc (length (ps ++ word ∷ []))) tr) words) found (rows_end (at h' idle (suc (length (ps ++ word ∷ []))) tr) words))
      → Verdict n opts ps (rest (at h waits (suc (length ps)) tr) (word ∷ words)) (with_place word found) (rows_end (at h waits (suc (length ps)) tr) (word ∷ words))
  place_verdict h waits tr us ps given word words found holds a le m later = go (lt_or_le (length ps) n)
    where
      go : (length ps < n) ⊎ (n ≤ length ps) → Verdict n opts ps (rest (at h waits (suc (length ps)) tr) (word ∷ words)) (with_place word found) (rows_end (at h waits (suc (length ps)) tr) (word ∷ words))
      go (inl lt) =
          let h' : Held = placed_held h (place_word (suc (length ps))) word in
          let v = later h' (us ++ (place_word (suc (length ps)), word) ∷ []) (place_held h us ps given word holds a lt) (place_agrees word a) (rw (one_more ps word) (omega arith)) in
          let w = subst (λ (k : ℕ). Verdict n opts (ps ++ word ∷ []) (rest (at h' idle (suc k) tr) words) found (rows_end (at h' idle (suc k) tr) words)) (one_more ps word) v in
          goes_on (at h waits (suc (length ps)) tr) (at h' idle (suc (suc (length ps))) tr) word words ps (with_place word found) (value_goes h waits tr word (length ps) m lt holds.quiet) (placed n opts ps word (rest (at h' idle (suc (suc (length ps))) tr) words) found (rows_end (at h' idle (suc (suc (length ps))) tr) words) w)
      go (inr many) = fails (at h waits (suc (length ps)) tr) word words ps (with_place word found) (value_fails (at h waits (suc (length ps)) tr) word (length ps) m many) (λ places all e count b.
          let q = mapped (λ (f : List Text × Given). (word ∷ f.0, f.1)) found (places, all) e in
          let are : word ∷ q.0.0 ≡ places = ap (λ (f : List Text × Given). f.0) q.2 in
          too_many n ps word q.0.0 many (ap (λ (xs : List Text). length (ps ++ xs)) are ∙ count))

  trailing_verdict : (words ps : List Text) (us : Uses) (given : Given) (h : Held) (waits : Waiting) → Holds h us → Agree us ps given → length ps ≤ n → (opts ≡ false → given ≡ nothing_given) → Verdict n opts ps (rest (at h waits (suc (length ps)) true) words) (Some (words, given)) (rows_end (at h waits (suc (length ps)) true) words)
  trailing_verdict [] ps us given h waits holds a le bare = end_verdict ps us given h waits true holds a le bare
  trailing_verdict (word ∷ words) ps us given h waits holds a le bare = place_verdict h waits true us ps given word words (Some (words, given)) holds a le (move_trailing h waits (suc (length ps)) word) (λ h' us' holds' a' le'. trailing_verdict words (ps ++ word ∷ []) us' given h' idle holds' a' le' bare)

  -- ---- from the first word on

  abbrev IdleReads : List Text → Type 0
  IdleReads words = (ps : List Text) (us : Uses) (given : Given) (h : Held) → Holds h us → Agree us ps given → length ps ≤ n → (opts ≡ false → given ≡ nothing_given) → Verdict n opts ps (rest (at h idle (suc (length ps)) false) words) (reading None given words) (rows_end (at h idle (suc (length ps)) false) words)

  abbrev WaitsReads : List Text → Type 0
  WaitsReads words = (ps : List Text) (us : Uses) (given : Given) (rows : List Row) (skip : ℕ) (x : Setting) → opts ≡ true → rows ≡ map row us → skip ≡ 0 → Agree us ps given → length ps ≤ n → Verdict n opts ps (rest (at (asking rows x skip) (option (setting_word x)) (suc (length ps)) false) words) (reading (Some (setting_word x)) given words) (rows_end (at (asking rows x skip) (option (setting_word x)) (suc (length ps)) false) words)

  never_set : (name : Text) → IsNone name ⊎ (opts ≡ false) → (v : Text) (given : Given) (later places : List Text) (all : Given) → (opts ≡ false → all ≡ nothing_given) → option_and_then (λ now. reading None now later) (set_called name v given) ≡ Some (places, all) → ⊥
  never_set name (inl un) v given later places all bare e = set_none name v given later places all un e
  never_set name (inr o) v given later places all bare e = set_some name v given later places all e (bare o)

  refused_none : (ps : List Text) (fault : Kinds) (found : Option (List Text × Given)) (rows : List Row) → IsSome fault → found ≡ None → Verdict n opts ps fault found rows
  refused_none ps fault found rows f e = inr (record { kind = f.0; kinds = f.1; some = f.2; never = λ places all is count bare. none_some (places, all) (sym e ∙ is) })

  turned : (w : Walk) (word : Text) (words : List Text) → IsSome (turn_fault (leaf rs) [] w word) → IsSome (rest w (word ∷ words))
  turned w word words f = subst IsSome (sym (rest_cons w word words)) (some_else _ _ f)

  abbrev before_value : Held → Setting → Held
  before_value h x = asking (settled rs h).rows x h.skip

  move_before : (h : Held) (position : ℕ) (word name : Text) (x : Setting) → bytes_eq word dashes ≡ false → long_of word ≡ Some (name, None) → name ≡ setting_word x → opts ≡ true → settle_fault rs false h ≡ [] → move (at h idle position false) word ≡ ([], at (before_value h x) (option (setting_word x)) position false)
  move_before h position word name x d l e o quiet = move_long h idle position word name None (Some (flag x)) d l (ap (arg_by_long rs) e ∙ t.by_long x o) ∙ (λ i. (or_else (quiet i) [], at (before_value h x) (option (setting_word x)) position false))

  abbrev after_value : Held → Setting → Text → Held
  after_value h x v = record { rows = used (flag x) (v ∷ []) (settled rs h).rows; pending = None; skip = h.skip }

  move_with : (h : Held) (position : ℕ) (word name v : Text) (x : Setting) → bytes_eq word dashes ≡ false → long_of word ≡ Some (name, Some v) → name ≡ setting_word x → opts ≡ true → (fault : Kinds) → settle_fault rs false h ≡ [] → use_fault false (flag x) (v ∷ []) (settled rs h).rows ≡ fault → move (at h idle position false) word ≡ (or_else fault [], at (after_value h x v) idle position false)
  move_with h position word name v x d l e o fault quiet u = move_long h idle position word name (Some v) (Some (flag x)) d l (ap (arg_by_long rs) e ∙ t.by_long x o) ∙ (λ i. (or_else (or_else (quiet i) (u i)) [], at (after_value h x v) idle position false))

  module _ (word : Text) (words : List Text) (first : First word) (firsts : AllFirst words) (idle_more : IdleReads words) (waits_more : WaitsReads words) where
    idle_step : IdleReads (word ∷ words)
    unfolding reading
    idle_step ps us given h holds a le bare = go (word_sort word) (word_seen word)
      where
        w : Walk
        w = at h idle (suc (length ps)) false

        before : (name : Text) → Seen word (Before name) → ((x : Setting) × (opts ≡ true) × (name ≡ setting_word x)) ⊎ Stranger name → Verdict n opts ps (rest w (word ∷ words)) (reading (Some name) given words) (rows_end w (word ∷ words))
        before name seen (inl p) =
            let v = waits_more ps us given (settled rs h).rows h.skip p.0 p.1 holds.rows holds.skip a le in
            let w' : Walk = at (before_value h p.0) (option (setting_word p.0)) (suc (length ps)) false in
            goes_on w w' word words ps (reading (Some name) given words) (move_before h (suc (length ps)) word name p.0 seen.0 seen.1 p.2 p.1 holds.quiet)
            (subst (λ (m : Text). Verdict n opts ps (rest w' words) (reading (Some m) given words) (rows_end w' words)) (sym p.2) v)
        before name seen (inr q) = fails w word words ps (reading (Some name) given words) (stranger_fails h idle (suc (length ps)) word name None seen.0 seen.1 q.0)
            (λ places all e count b. waiting_never name given words places all (λ v later is. never_set name q.1 v given later places all b is) e)

        by_free : (name v : Text) → Seen word (With name v) → (x : Setting) → opts ≡ true → name ≡ setting_word x → (o : Option Text) → word_given x given ≡ o → Verdict n opts ps (rest w (word ∷ words)) (option_and_then (λ now. reading None now words) (set_called name v given)) (rows_end w (word ∷ words))
        by_free name v seen x o e None free =
            let none : value_for (setting_word x) us ≡ None = a.options x ∙ free in
            let quiet = ap (use_fault false (flag x) (v ∷ [])) holds.rows ∙ new_use (setting_word x) (Some (setting_word x)) None false v us none in
            let sets : set_called name v given ≡ Some (with_word x v given) = ap (λ (m : Text). set_called m v given) e ∙ set_free x v given free in
            let h' : Held = after_value h x v in
            let holds' : Holds h' (us ++ (setting_word x, v) ∷ []) = record { quiet = refl; rows = ap (used (flag x) (v ∷ [])) holds.rows ∙ used_new (setting_word x) (Some (setting_word x)) None false v us none; skip = holds.skip } in
            let u = idle_more ps (us ++ (setting_word x, v) ∷ []) (with_word x v given) h' holds' (option_agrees x v free a) le (λ f. absurd cc) in
            let w' : Walk = at h' idle (suc (length ps)) false in
            goes_on w w' word words ps (option_and_then (λ now. reading None now words) (set_called name v given)) (move_with h (suc (length ps)) word name v x seen.0 seen.1 e o [] holds.quiet quiet)
            (subst (λ (f : Option Given). Verdict n opts ps (rest w' words) (option_and_then (λ now. reading None now words) f) (rows_end w' words)) (sym sets) u)
        by_free name v seen x o e (Some u) free =
            let again = ap (use_fault false (flag x) (v ∷ [])) holds.rows ∙ second_use (setting_word x) (Some (setting_word x)) None false v u us (a.options x ∙ free) in
            let sets : set_called name v given ≡ None = ap (λ (m : Text). set_called m v given) e ∙ set_twice x v u given free in
            refused_none ps (rest w (word ∷ words)) (option_and_then (λ now. reading None now words) (set_called name v given)) (rows_end w (word ∷ words))
            (turned w word words (ArgumentConflict, [], ap (λ (q : Kinds × Walk). q.0) (move_with h (suc (length ps)) word name v x seen.0 seen.1 e o (ArgumentConflict ∷ []) holds.quiet again)))
            (ap (option_and_then (λ now. reading None now words)) sets)

        with_value : (name v : Text) → Seen word (With name v) → ((x : Setting) × (opts ≡ true) × (name ≡ setting_word x)) ⊎ Stranger name → Verdict n opts ps (rest w (word ∷ words)) (option_and_then (λ now. reading None now words) (set_called name v given)) (rows_end w (word ∷ words))
        with_value name v seen (inl p) = by_free name v seen p.0 p.1 p.2 (word_given p.0 given) refl
        with_value name v seen (inr q) = fails w word words ps (option_and_then (λ now. reading None now words) (set_called name v given)) (stranger_fails h idle (suc (length ps)) word name (Some v) seen.0 seen.1 q.0)
            (λ places all e count b. never_set name q.1 v given words places all b e)

        go : (so : WordSort) → Seen word so → Verdict n opts ps (rest w (word ∷ words)) (read_word so given word words (λ waits now. reading waits now words)) (rows_end w (word ∷ words))
        go PlainWord seen = place_verdict h idle false us ps given word words (reading None given words) holds a le (move_value h (suc (length ps)) word seen.0 seen.1 seen.2) (λ h' us' holds' a' le'. idle_more (ps ++ word ∷ []) us' given h' holds' a' le' bare)
        go Dashes seen = goes_on w (at h idle (suc (length ps)) true) word words ps (Some (words, given)) (move_dashes h idle (suc (length ps)) word seen) (trailing_verdict words ps us given h idle holds a le bare)
        go (Before name) seen = before name seen (find_long name)
        go (With name v) seen = with_value name v seen (find_long name)
        go Other seen = refused_none ps (rest w (word ∷ words)) None (rows_end w (word ∷ words)) (turned w word words (short_fails h idle (suc (length ps)) word holds.skip first seen)) refl

    waits_step : WaitsReads (word ∷ words)
    unfolding reading
    waits_step ps us given rows skip x o are z a le = go (word_sort word) (word_seen word)
      where
        h : Held
        h = asking rows x skip

        id : Text
        id = setting_word x

        w : Walk
        w = at h (option id) (suc (length ps)) false

        asks_more : IsSome (settle_fault rs false h)
        asks_more = (InvalidValue, [], asking_fails rows x skip o)

        h' : Held
        h' = with_pending rows id (word ∷ []) skip

        w' : Walk
        w' = at h' idle (suc (length ps)) false

        moved : Seen word PlainWord → move w word ≡ ([], w')
        moved seen = move_short h (option id) (suc (length ps)) word None seen.0 seen.1 seen.2
            ∙ ap (λ (r : Option Rule). by_met w word [] ((clap.option_word r id word h).0, next (clap.option_word r id word h).1)) (t.flag_id x o)
            ∙ (λ i. ([], at h' (cond (nat_lt (cond (same_text id i) 1 0) 1) (option id) idle) (suc (length ps)) false))

        by_free : Seen word PlainWord → (f : Option Text) → word_given x given ≡ f → Verdict n opts ps (rest w (word ∷ words)) (option_and_then (λ now. reading None now words) (set_called id word given)) (rows_end w (word ∷ words))
        by_free seen None free =
            let holds' = pending_holds rows us id (Some id) None false word skip (t.flag_id x o) are (a.options x ∙ free) z in
            let u = idle_more ps (us ++ (id, word) ∷ []) (with_word x word given) h' holds' (option_agrees x word free a) le (λ f. absurd cc) in
            goes_on w w' word words ps (option_and_then (λ now. reading None now words) (set_called id word given)) (moved seen)
            (subst (λ (f : Option Given). Verdict n opts ps (rest w' words) (option_and_then (λ now. reading None now words) f) (rows_end w' words)) (sym (set_free x word given free)) u)
        by_free seen (Some u) free =
            let conflict : settle_fault rs false h' ≡ ArgumentConflict ∷ [] = by_id_fault rows id (word ∷ []) skip (flag x) (t.flag_id x o) ∙ ap (use_fault false (flag x) (word ∷ [])) are ∙ second_use id (Some id) None false word u us (a.options x ∙ free) in
            refused_none ps (rest w (word ∷ words)) (option_and_then (λ now. reading None now words) (set_called id word given)) (rows_end w (word ∷ words))
            (fails_behind w w' word words (moved seen) (idle_doomed words firsts h' (length ps) z (ArgumentConflict, [], conflict)))
            (ap (option_and_then (λ now. reading None now words)) (set_twice x word u given free))

        go : (so : WordSort) → Seen word so → Verdict n opts ps (rest w (word ∷ words)) (read_value (is_plain_sort so) id given word (λ now. reading None now words)) (rows_end w (word ∷ words))
        go PlainWord seen = by_free seen (word_given x given) refl
        go Dashes seen = refused_none ps (rest w (word ∷ words)) None (rows_end w (word ∷ words)) (fails_behind w (at h (option id) (suc (length ps)) true) word words (move_dashes h (option id) (suc (length ps)) word seen) (trailing_doomed words h (option id) (length ps) asks_more)) refl
        go (Before name) seen = refused_none ps (rest w (word ∷ words)) None (rows_end w (word ∷ words)) (turned w word words (long_doomed h (option id) (suc (length ps)) word name None seen.0 seen.1 asks_more)) refl
        go (With name v) seen = refused_none ps (rest w (word ∷ words)) None (rows_end w (word ∷ words)) (turned w word words (long_doomed h (option id) (suc (length ps)) word name (Some v) seen.0 seen.1 asks_more)) refl
        go Other seen = refused_none ps (rest w (word ∷ words)) None (rows_end w (word ∷ words)) (turned w word words (short_fails h (option id) (suc (length ps)) word z first seen)) refl

  all_read : (words : List Text) → AllFirst words → IdleReads words × WaitsReads words
  unfolding reading
  all_read [] firsts = (
    λ ps us given h holds a le bare. end_verdict ps us given h idle false holds a le bare,
    λ ps us given rows skip x o are z a le. refused_none ps (rest (at (asking rows x skip) (option (setting_word x)) (suc (length ps)) false) []) None (rows_end (at (asking rows x skip) (option (setting_word x)) (suc (length ps)) false) [])
        (subst IsSome (sym (rest_nil (at (asking rows x skip) (option (setting_word x)) (suc (length ps)) false))) (tail_doomed (asking rows x skip) (InvalidValue, [], asking_fails rows x skip o))) refl,
  )
  all_read (word ∷ words) firsts =
      let more = all_read words firsts.1 in
      (idle_step word words firsts.0 firsts.1 more.0 more.1, waits_step word words firsts.0 firsts.1 more.0 more.1)

  -- what `clap` reads of the words, and where it refuses them
  pub verdict : (words : List Text) → AllFirst words → Verdict n opts [] (level_fault (leaf rs) [] nothing_held words false []) (reading None nothing_given words) (clap.rows_after rs [] words)
  verdict words firsts = (all_read words firsts).0 [] [] nothing_given nothing_held (record { quiet = refl; rows = refl; skip = refl }) none_agree (omega arith) (λ o. refl)
