-- The refusals of the reader: which word is refused, and why.
--
-- kind_of    the kind of a word
-- StandsAt   the word at which a limit is passed
-- AsPast     a word that a limit refuses as it refuses another
-- IsBut      limits of which one is left aside
-- IsBegun    words that a text begins with, within limits and whatever its indices
-- OneMore    rules that fit, and one more
-- LeadsOn    words that lead on to rules, where those that end among them fit
-- IsFront    words that are a text or lead on to one
-- Reaches    words that are read up to one word
-- Misfits, WrongNumber, Passes, Misses    how that word is wrong, or missing
-- Ends       a rule that ends where the words before it are read
-- Misnames, HasNoLine, IsLoose    how that rule is wrong
-- Refuses    words that are refused so
use Rattle.std.specs.Prelude.{◌≡◌, ◌≢◌, ◌⊎◌, ℕ, ◌+◌, ◌<◌, ◌≤◌, List, [], ◌∷◌, ◌++◌, length}
use Rattle.std.specs.List.{AllByRecursion}
use Rattle.rule_reader.specs.declared.fault.RuleRefusal.{RuleRefusal}
use Rattle.rule_reader.specs.declared.fault.RuleRefusal.TheVariants.{Syntax, Number, TooMany, BadIndex, TooLoose, Memory}
use Rattle.rule_reader.specs.declared.rule.Rule.{Rule}
use Rattle.rule_reader.specs.Words.{Tok, MarkTok, TextTok, NumberTok, NameTok, BadTok}
use Rattle.rule_reader.specs.Graph.{OneOfEach}
use Rattle.rule_reader.specs.Sections.{rule_word}
use Rattle.rule_reader.specs.Grammar.{Said, ◌▹◌, many, Limits, standard, tolfak, rule_said, whole_rule, Hits, Derives, Admits}
use Rattle.rule_reader.specs.Grammar.{words as words_of_said}

-- numbers are of one kind, texts are of one, and any other word is of its own
abbrev pub kind_of : Tok → Tok
kind_of (MarkTok b) = MarkTok b
kind_of (TextTok bytes) = TextTok []
kind_of (NumberTok bytes) = NumberTok []
kind_of (NameTok bytes) = NameTok bytes
kind_of BadTok = BadTok

-- at which word this limit is passed
pub data StandsAt (what : ℕ) (word : Tok) : Type 0 where
  AtRule : what ≡ 1 → word ≡ NameTok rule_word → StandsAt what word
  -- at the opening bracket
  AtEntry : 1 < what → what < 10 → word ≡ MarkTok 40 → StandsAt what word
  -- at the coefficient
  AtTerm : (bytes : List ℕ) → what ≡ 10 → word ≡ NumberTok bytes → StandsAt what word
  AtName : (bytes : List ℕ) → what ≡ 11 → word ≡ TextTok bytes → StandsAt what word

-- a limit refuses just this word; that of terms refuses any number
abbrev pub AsPast : ℕ → Tok → Tok → Type 0
AsPast what word other = (other ≡ word) ⊎ ((what ≡ 10) × (kind_of other ≡ kind_of word))

-- one limit is left aside, and all others are kept
abbrev pub IsBut : ℕ → Limits → Type 0
IsBut what most = (other : ℕ) → other ≢ what → most other ≡ standard other

-- ---- fronts of texts

-- more words make the words a text within these limits
abbrev pub IsBegun : Limits → List Tok → Type 0
IsBegun most words = (more : List Tok) × (rules : List Rule) × Derives most (words ++ more) rules

-- rules that fit
abbrev pub rules_said : List Said → List Rule → Type 0
rules_said = tolfak ▹ λ a. many whole_rule 0

-- the words are so many rules that fit, and one more, whatever its indices
pub record OneMore (ended : ℕ) (words : List Tok) : Type 0 where
  pub front : List Said
  pub said : List Said
  pub same : words ≡ words_of_said front ++ words_of_said said
  pub rules : List Rule
  pub rule : Rule
  pub fit : rules_said front rules
  pub says : rule_said standard said rule
  pub few : length rules < standard 1
  pub count : ended ≡ length rules

pub record IsWhole (ended : ℕ) (words : List Tok) : Type 0 where
  pub rules : List Rule
  pub admitted : Admits words rules
  pub count : ended ≡ length rules

-- so many rules end among the words, and fit: with more words, these are these rules and one more, that ends behind the words
pub record LeadsOn (ended : ℕ) (words : List Tok) : Type 0 where
  pub more : List Tok
  pub some : 0 < length more
  pub one : OneMore ended (words ++ more)
  pub among : 0 < ended → length one.front ≤ length words

-- so many rules end among the words, and fit: the words are these rules, or lead on to one more
abbrev pub IsFront : ℕ → List Tok → Type 0
IsFront ended words = IsWhole ended words ⊎ LeadsOn ended words

-- such words, or such words and the comma behind the last term that a row may have: with it a text begins if the limit of terms is left aside
abbrev pub IsRead : ℕ → List Tok → Type 0
IsRead ended words = IsFront ended words
    ⊎ ((front : List Tok) × (words ≡ front ++ MarkTok 44 ∷ []) × IsFront ended front
    × ((most : Limits) × IsBut 10 most × IsBegun most words))

-- ---- a word

-- the words before this one, which is word number `at`, are read; so many rules end among them
pub record Reaches (words : List Tok) (at ended : ℕ) (word : Tok) : Type 0 where
  pub before : List Tok
  pub after : List Tok
  pub same : words ≡ before ++ (word ∷ after)
  pub place : at ≡ length before + 1
  pub read : IsRead ended before

-- with this word, or with another of its kind, no text begins
pub record Misfits (words : List Tok) (at : ℕ) : Type 0 where
  pub ended : ℕ
  pub word : Tok
  pub here : Reaches words at ended word
  pub stop : (other : Tok) → kind_of other ≡ kind_of word → (most : Limits)
      → IsBegun most (here.before ++ other ∷ []) → ⊥

-- with this number no text begins, and with another one the words are read on
pub record WrongNumber (words : List Tok) (at : ℕ) : Type 0 where
  pub ended : ℕ
  pub bytes : List ℕ
  pub here : Reaches words at ended (NumberTok bytes)
  pub stop : (most : Limits) → IsBegun most (here.before ++ NumberTok bytes ∷ []) → ⊥
  pub other : List ℕ
  pub fits : IsFront ended (here.before ++ NumberTok other ∷ [])

-- within this one limit no text begins with the word, and where it is a term's, with no other number either;
-- with the word, or with another of its kind, one begins if this one limit is left aside
pub record Passes (words : List Tok) (number what : ℕ) : Type 0 where
  pub at : ℕ
  pub ended : ℕ
  pub word : Tok
  pub here : Reaches words at ended word
  pub rule : number ≡ ended + 1
  pub stands : StandsAt what word
  pub stop : (other : Tok) → AsPast what word other → (most : Limits) → most what ≡ standard what
      → IsBegun most (here.before ++ other ∷ []) → ⊥
  pub other : Tok
  pub alike : kind_of other ≡ kind_of word
  pub begins : (most : Limits) × IsBut what most × IsBegun most (here.before ++ other ∷ [])

-- all words are read, and are no text
pub record Misses (words : List Tok) (at : ℕ) : Type 0 where
  pub ended : ℕ
  pub place : at ≡ length words + 1
  pub read : IsRead ended words
  pub stop : (most : Limits) (rules : List Rule) → Derives most words rules → ⊥

-- ---- a rule

-- the rule of this number ends behind rules that fit
pub record Ends (words : List Tok) (number : ℕ) : Type 0 where
  pub text : List Tok
  pub after : List Tok
  pub same : words ≡ text ++ after
  pub ended : ℕ
  pub place : number ≡ ended + 1
  pub one : OneMore ended text

-- the index in this word names a point that it may name
abbrev pub Hit : Rule → Said → Type 0
Hit rule s = Hits (length rule.points) (length rule.new_points) s.index

-- the first index of the rule that names no point that it may name is word number `at`
pub record Misnames (words : List Tok) (number at : ℕ) : Type 0 where
  pub rule : Ends words number
  pub before : List Said
  pub index : Said
  pub after : List Said
  pub same : rule.one.said ≡ before ++ (index ∷ after)
  pub hits : AllByRecursion (Hit rule.one.rule) before
  pub miss : Hit rule.one.rule index → ⊥
  pub place : at ≡ length rule.one.front + length before + 1

-- the rule has no mapped line, and its last word is word number `at`
pub record HasNoLine (words : List Tok) (number at : ℕ) : Type 0 where
  pub rule : Ends words number
  pub hits : AllByRecursion (Hit rule.one.rule) rule.one.said
  pub none : rule.one.rule.lines ≡ []
  pub place : at ≡ length rule.text

-- the rule's graph has more than four parts: four or more that don't hold point 1
pub record IsLoose (words : List Tok) (number : ℕ) : Type 0 where
  pub rule : Ends words number
  pub hits : AllByRecursion (Hit rule.one.rule) rule.one.said
  pub lines : 0 < length rule.one.rule.lines
  pub starts : List ℕ
  pub each : OneOfEach (length rule.one.rule.points) rule.one.rule.lines starts
  pub more : 4 < length starts

-- ---- refusals

abbrev pub Refuses : List Tok → RuleRefusal → Type 0
Refuses words (Syntax at) = Misfits words at ⊎ Misses words at
Refuses words (Number at) = WrongNumber words at
Refuses words (TooMany number what) = Passes words number what
Refuses words (BadIndex number at) = Misnames words number at ⊎ HasNoLine words number at
Refuses words (TooLoose number) = IsLoose words number
Refuses words Memory = Unit {0}
