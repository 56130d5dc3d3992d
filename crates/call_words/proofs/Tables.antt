-- What the command of a verb looks like to `clap` when it is built: places that are called 1, 2, .. and are
-- all wanted, and behind them the four options, or none. Whatever is looked up among the arguments stands in
-- one table, which is proved for any number of places by going along them.
use Rattle.std.proofs.Common.{◌≡◌, ◌≢◌, ℕ, Bool, true, false, zero, suc, cond, not, ◌<◌, ◌≤◌, ◌&&◌, ◌||◌, ◌+◌, ◌==◌, ◌⊎◌, inl, inr, subst, List, [], ◌∷◌, Option, Some, None, codes, refl, sym, ap, ◌∙◌, arith}
use Rattle.std.proofs.lemmas.Bool.{cases_eq, eq-eqb, ne_eqb, or_right}
use Rattle.std.specs.Str.{bytes_eq}
use Rattle.std.specs.List.{fold, list_any}
use Rattle.std.specs.Cmp.Lexicographic.{bytes_decides}
use Rattle.clap.specs.Walk.{Row, Rule, Text, reading_by, default_rows, is_empty, arg_by_index, arg_by_short, arg_by_long, arg_by_id, has_row, with_default}
use Rattle.clap.specs.Simple.{App, Shape, new_shape, new_rule}
use Rattle.clap.specs.Takes.{is_given}
use Rattle.clap.specs.Kinds.{Kinds, or_else, check_kinds}
use Rattle.clap.specs.Faults.{default_fault, given_default_fault, check_fault, defaults_fault}
use Rattle.clap.specs.declared.builder.action.ArgAction.TheVariants.{Set}
use Rattle.clap.specs.declared.builder.value_parser.ValueParser.TheVariants as vp
use Rattle.clap.specs.declared.error.kind.ErrorKind.TheVariants.{MissingRequiredArgument}
use Rattle.call_words.specs.declared.settings.Setting.{Setting}
use Rattle.call_words.specs.declared.settings.Setting.TheVariants.{Maxh, Grading, Class, Steps}
use Rattle.call_words.specs.CommandLine.{setting_word}
use Rattle.call_words.specs.Asks.{place_word}

-- an argument with one value, as building leaves it
abbrev pub slot : Text → Option Text → Option ℕ → Bool → Rule
slot id long index required = record (new_rule id) { long = long; index = index; action = Some Set; range = Some (record { start_inclusive = 1; end_inclusive = 1 }); parser = Some vp.String; required = required }

abbrev pub place : ℕ → Rule
place k = slot (place_word k) None (Some k) true

abbrev pub flag : Setting → Rule
flag x = slot (setting_word x) (Some (setting_word x)) None false

abbrev pub flags : List Rule
flags = flag Maxh ∷ flag Grading ∷ flag Class ∷ flag Steps ∷ []

abbrev pub leaf : List Rule → Shape
leaf rs = record (new_shape (codes "netmesh")) { rules = rs; no_binary_name = true; disable_help_flag = true; disable_help_subcommand = true; is_built = true }

abbrev pub whole : List Rule → App
whole rs = record { top = leaf rs; subs = [] }

-- so many places, numbered on from the first, and these arguments behind them
abbrev pub places_from : ℕ → ℕ → List Rule → List Rule
places_from first zero back = back
places_from first (suc n) back = place first ∷ places_from (suc first) n back

abbrev pub flags_if : Bool → List Rule
flags_if true = flags
flags_if false = []

-- the arguments of a command
abbrev pub rules_of : ℕ → Bool → List Rule
rules_of n opts = places_from 1 n (flags_if opts)

-- what is looked up in the arguments of a command
pub record Table (rs : List Rule) (n : ℕ) (opts : Bool) : Type 0 where
  pub few : n ≤ 4
  pub by_index : (k : ℕ) → k < n → arg_by_index rs (suc k) ≡ Some (place (suc k))
  pub past : (k : ℕ) → n ≤ k → arg_by_index rs (suc k) ≡ None
  pub by_short : (x : ℕ) → arg_by_short rs x ≡ None
  pub by_long : (x : Setting) → opts ≡ true → arg_by_long rs (setting_word x) ≡ Some (flag x)
  pub no_long : (name : Text) → ((x : Setting) → opts ≡ true → name ≢ setting_word x) → arg_by_long rs name ≡ None
  pub place_id : (k : ℕ) → k < n → arg_by_id rs (place_word (suc k)) ≡ Some (place (suc k))
  pub flag_id : (x : Setting) → opts ≡ true → arg_by_id rs (setting_word x) ≡ Some (flag x)
  pub no_defaults : (rows : List Row) → defaults_fault rows rs ≡ []
  pub same_rows : (rows : List Row) → fold with_default rows rs ≡ rows
  pub full : (rows : List Row) → ((k : ℕ) → k < n → is_given (place_word (suc k)) rows ≡ true) → check_fault (leaf rs) rows false ≡ []
  pub short : (rows : List Row) (k : ℕ) → k < n → is_given (place_word (suc k)) rows ≡ false → check_fault (leaf rs) rows false ≡ MissingRequiredArgument ∷ []

-- ---- no argument has a default

abbrev Bare : List Rule → Type 0
Bare [] = Unit {0}
Bare (a ∷ rs) = (a.defaults ≡ []) × Bare rs

cond_same : {A : Type 0} (b : Bool) (x : A) → cond b x x ≡ x
cond_same true x = refl
cond_same false x = refl

default_same : (a : Rule) (rows : List Row) → a.defaults ≡ [] → with_default rows a ≡ rows
default_same a rows d = (λ i. cond (has_row a.id rows) rows (default_rows a.id (reading_by a) (d i) rows)) ∙ cond_same (has_row a.id rows) rows

default_none : (a : Rule) (rows : List Row) → a.defaults ≡ [] → default_fault rows a ≡ []
default_none a rows d = (λ i. cond (has_row a.id rows || is_empty (d i)) [] (given_default_fault a a.defaults)) ∙ go (has_row a.id rows) (given_default_fault a a.defaults)
  where
    go : (b : Bool) (ks : Kinds) → cond (b || true) [] ks ≡ []
    go true ks = refl
    go false ks = refl

rows_same : (rs : List Rule) (rows : List Row) → Bare rs → fold with_default rows rs ≡ rows
rows_same [] rows b = refl
rows_same (a ∷ rs) rows b = ap (λ (r : List Row). fold with_default r rs) (default_same a rows b.0) ∙ rows_same rs rows b.1

faults_none : (rs : List Rule) (rows : List Row) → Bare rs → defaults_fault rows rs ≡ []
unfolding defaults_fault
faults_none [] rows b = refl
faults_none (a ∷ rs) rows b = (λ i. or_else (default_none a rows b.0 i) (defaults_fault (default_same a rows b.0 i) rs)) ∙ faults_none rs rows b.1

-- ---- looking along the places

same_place : (k : ℕ) → bytes_eq (place_word k) (place_word k) ≡ true
same_place k = (bytes_decides (place_word k) (place_word k)).1 refl

pub place_no_place : (j k : ℕ) → j ≢ k → bytes_eq (place_word j) (place_word k) ≡ false
place_no_place j k ne = ap (λ b. b && true) (ne_eqb (48 + j) (48 + k) (λ e. ne (omega arith)))

cut_and : (b : Bool) → (b && false) ≡ false
cut_and true = refl
cut_and false = refl

pub place_no_setting : (k : ℕ) (x : Setting) → bytes_eq (place_word k) (setting_word x) ≡ false
place_no_setting k Maxh = cut_and (48 + k == 109)
place_no_setting k Grading = cut_and (48 + k == 103)
place_no_setting k Class = cut_and (48 + k == 99)
place_no_setting k Steps = cut_and (48 + k == 115)

pub setting_no_place : (x : Setting) (k : ℕ) → bytes_eq (setting_word x) (place_word k) ≡ false
setting_no_place Maxh k = cut_and (109 == 48 + k)
setting_no_place Grading k = cut_and (103 == 48 + k)
setting_no_place Class k = cut_and (99 == 48 + k)
setting_no_place Steps k = cut_and (115 == 48 + k)

-- a place among them is found by its index and by its name
index_at : (first n i : ℕ) (back : List Rule) → first ≤ i → i < first + n → arg_by_index (places_from first n back) i ≡ Some (place i)
index_at first zero i back le lt = absurd (omega arith)
index_at first (suc n) i back le lt = go (cases_eq first i) (λ ne. index_at (suc first) n i back (omega arith) (omega arith))
  where
    rest : List Rule
    rest = places_from (suc first) n back

    go : (first ≡ i) ⊎ (first ≡ i → ⊥) → ((first ≡ i → ⊥) → arg_by_index rest i ≡ Some (place i)) → arg_by_index (place first ∷ rest) i ≡ Some (place i)
    go (inl e) more = subst (λ j. arg_by_index (place first ∷ rest) j ≡ Some (place j)) e (λ j. cond (eq-eqb first first refl j) (Some (place first)) (arg_by_index rest first))
    go (inr ne) more = (λ j. cond (ne_eqb first i ne j) (Some (place first)) (arg_by_index rest i)) ∙ more ne

index_past : (first n i : ℕ) (back : List Rule) → first + n ≤ i → arg_by_index (places_from first n back) i ≡ arg_by_index back i
index_past first zero i back le = refl
index_past first (suc n) i back le = (λ j. cond (ne_eqb first i (λ e. omega arith) j) (Some (place first)) (arg_by_index (places_from (suc first) n back) i)) ∙ index_past (suc first) n i back (omega arith)

id_at : (first n i : ℕ) (back : List Rule) → first ≤ i → i < first + n → arg_by_id (places_from first n back) (place_word i) ≡ Some (place i)
id_at first zero i back le lt = absurd (omega arith)
id_at first (suc n) i back le lt = go (cases_eq first i) (λ ne. id_at (suc first) n i back (omega arith) (omega arith))
  where
    rest : List Rule
    rest = places_from (suc first) n back

    go : (first ≡ i) ⊎ (first ≡ i → ⊥) → ((first ≡ i → ⊥) → arg_by_id rest (place_word i) ≡ Some (place i)) → arg_by_id (place first ∷ rest) (place_word i) ≡ Some (place i)
    go (inl e) more = subst (λ j. arg_by_id (place first ∷ rest) (place_word j) ≡ Some (place j)) e (λ j. cond (same_place first j) (Some (place first)) (arg_by_id rest (place_word first)))
    go (inr ne) more = (λ j. cond (place_no_place first i ne j) (Some (place first)) (arg_by_id rest (place_word i))) ∙ more ne

-- an option is looked for behind them
id_behind : (first n : ℕ) (x : Setting) (back : List Rule) → arg_by_id (places_from first n back) (setting_word x) ≡ arg_by_id back (setting_word x)
id_behind first zero x back = refl
id_behind first (suc n) x back = (λ j. cond (place_no_setting first x j) (Some (place first)) (arg_by_id (places_from (suc first) n back) (setting_word x))) ∙ id_behind (suc first) n x back

long_behind : (first n : ℕ) (name : Text) (back : List Rule) → arg_by_long (places_from first n back) name ≡ arg_by_long back name
long_behind first zero name back = refl
long_behind first (suc n) name back = long_behind (suc first) n name back

short_behind : (first n x : ℕ) (back : List Rule) → arg_by_short (places_from first n back) x ≡ arg_by_short back x
short_behind first zero x back = refl
short_behind first (suc n) x back = short_behind (suc first) n x back

bare_from : (first n : ℕ) (back : List Rule) → Bare back → Bare (places_from first n back)
bare_from first zero back b = b
bare_from first (suc n) back b = (refl, bare_from (suc first) n back b)

-- ---- a place that is missing

abbrev is_wanted : List Row → Rule → Bool
is_wanted rows a = a.required && not (is_given a.id rows)

-- some place is wanted where one isn't given, and none where all are
wanted_at : (rows : List Row) (first n i : ℕ) (back : List Rule) → first ≤ i → i < first + n → is_given (place_word i) rows ≡ false → list_any (is_wanted rows) (places_from first n back) ≡ true
wanted_at rows first zero i back le lt e = absurd (omega arith)
wanted_at rows first (suc n) i back le lt e = go (cases_eq first i) (λ ne. wanted_at rows (suc first) n i back (omega arith) (omega arith) e)
  where
    later : Bool
    later = list_any (is_wanted rows) (places_from (suc first) n back)

    go : (first ≡ i) ⊎ (first ≡ i → ⊥) → ((first ≡ i → ⊥) → later ≡ true) → (not (is_given (place_word first) rows) || later) ≡ true
    go (inl same) more = ap (λ b. not b || later) (ap (λ (k : ℕ). is_given (place_word k) rows) same ∙ e)
    go (inr ne) more = or_right (not (is_given (place_word first) rows)) later (more ne)

none_wanted : (rows : List Row) (first n : ℕ) (back : List Rule) → list_any (is_wanted rows) back ≡ false → ((i : ℕ) → first ≤ i → i < first + n → is_given (place_word i) rows ≡ true) → list_any (is_wanted rows) (places_from first n back) ≡ false
none_wanted rows first zero back none given = none
none_wanted rows first (suc n) back none given = (λ j. not (given first (omega arith) (omega arith) j) || list_any (is_wanted rows) (places_from (suc first) n back)) ∙ none_wanted rows (suc first) n back none (λ i le lt. given i (omega arith) (omega arith))

-- ---- options

differs : (x : Setting) (name : Text) → name ≢ setting_word x → bytes_eq (setting_word x) name ≡ false
differs x name ne = go (bytes_eq (setting_word x) name) refl
  where
    go : (b : Bool) → bytes_eq (setting_word x) name ≡ b → b ≡ false
    go true e = absurd (ne (sym ((bytes_decides (setting_word x) name).0 e)))
    go false e = refl

flags_index : (opts : Bool) (i : ℕ) → arg_by_index (flags_if opts) i ≡ None
flags_index true i = refl
flags_index false i = refl

flags_short : (opts : Bool) (x : ℕ) → arg_by_short (flags_if opts) x ≡ None
flags_short true x = refl
flags_short false x = refl

flags_bare : (opts : Bool) → Bare (flags_if opts)
flags_bare true = (refl, (refl, (refl, (refl, tt))))
flags_bare false = tt

flags_unwanted : (rows : List Row) (opts : Bool) → list_any (is_wanted rows) (flags_if opts) ≡ false
flags_unwanted rows true = refl
flags_unwanted rows false = refl

flag_long : (x : Setting) → arg_by_long flags (setting_word x) ≡ Some (flag x)
flag_long Maxh = refl
flag_long Grading = refl
flag_long Class = refl
flag_long Steps = refl

flag_found : (x : Setting) → arg_by_id flags (setting_word x) ≡ Some (flag x)
flag_found Maxh = refl
flag_found Grading = refl
flag_found Class = refl
flag_found Steps = refl

flags_long : (opts : Bool) (x : Setting) → opts ≡ true → arg_by_long (flags_if opts) (setting_word x) ≡ Some (flag x)
flags_long true x o = flag_long x
flags_long false x o = absurd cc

flags_found : (opts : Bool) (x : Setting) → opts ≡ true → arg_by_id (flags_if opts) (setting_word x) ≡ Some (flag x)
flags_found true x o = flag_found x
flags_found false x o = absurd cc

flags_no_long : (opts : Bool) (name : Text) → ((x : Setting) → opts ≡ true → name ≢ setting_word x) → arg_by_long (flags_if opts) name ≡ None
flags_no_long true name ne = λ i. cond (differs Maxh name (ne Maxh refl) i || false) (Some (flag Maxh)) (cond (differs Grading name (ne Grading refl) i || false) (Some (flag Grading)) (cond (differs Class name (ne Class refl) i || false) (Some (flag Class)) (cond (differs Steps name (ne Steps refl) i || false) (Some (flag Steps)) (None))))
flags_no_long false name ne = refl

-- ---- the table

pub table : (n : ℕ) (opts : Bool) → n ≤ 4 → Table (rules_of n opts) n opts
table n opts few = record {
  few = few;
  by_index = λ k lt. index_at 1 n (suc k) (flags_if opts) (omega arith) (omega arith);
  past = λ k le. index_past 1 n (suc k) (flags_if opts) (omega arith) ∙ flags_index opts (suc k);
  by_short = λ x. short_behind 1 n x (flags_if opts) ∙ flags_short opts x;
  by_long = λ x o. long_behind 1 n (setting_word x) (flags_if opts) ∙ flags_long opts x o;
  no_long = λ name ne. long_behind 1 n name (flags_if opts) ∙ flags_no_long opts name ne;
  place_id = λ k lt. id_at 1 n (suc k) (flags_if opts) (omega arith) (omega arith);
  flag_id = λ x o. id_behind 1 n x (flags_if opts) ∙ flags_found opts x o;
  no_defaults = λ rows. faults_none (rules_of n opts) rows (bare_from 1 n (flags_if opts) (flags_bare opts));
  same_rows = λ rows. rows_same (rules_of n opts) rows (bare_from 1 n (flags_if opts) (flags_bare opts));
  full = λ rows given. ap (λ b. check_kinds false false b) (none_wanted rows 1 n (flags_if opts) (flags_unwanted rows opts) (λ i le lt. given_from rows given i le lt));
  short = λ rows k lt e. ap (λ b. check_kinds false false b) (wanted_at rows 1 n (suc k) (flags_if opts) (omega arith) (omega arith) e);
}
  where
    given_from : (rows : List Row) → ((k : ℕ) → k < n → is_given (place_word (suc k)) rows ≡ true) → (i : ℕ) → 1 ≤ i → i < 1 + n → is_given (place_word i) rows ≡ true
    given_from rows given zero le lt = absurd (omega arith)
    given_from rows given (suc k) le lt = given k (omega arith)
