-- The grammar of rule files: which words stand for which values. It says nothing of how they are read.
--
-- Said       a word, and which point it names if it is an index
-- L ▹ M      what L says, and then what M says of it
-- many       entries one after another
-- Limits     how many there are at most
-- Derives    what the grammar says within limits, whatever the indices
-- Admits     a whole file
use Rattle.std.specs.Prelude.{◌≡◌, ℕ, zero, suc, ◌+◌, ◌<◌, ◌≤◌, Bool, true, false, ◌⊎◌, List, [], ◌∷◌, ◌++◌, length, map, slice_index, Option, Some, None, ℤ, Result, Ok, Err}
use Rattle.std.specs.List.{AllByRecursion}
use Rattle.word_scan.specs.Numerals.{whole_of}
use Rattle.rule_reader.specs.declared.fault.RuleRefusal.{RuleRefusal}
use Rattle.rule_reader.specs.declared.fault.RuleRefusal.TheVariants as refusals
use Rattle.rule_reader.specs.declared.reader.Bound.{Bound}
use Rattle.rule_reader.specs.declared.reader.Bound.TheVariants.{First, Second, Mapped, Any}
use Rattle.rule_reader.specs.declared.rule.Triple.{Triple}
use Rattle.rule_reader.specs.declared.rule.MapPoint.{MapPoint}
use Rattle.rule_reader.specs.declared.rule.MapLine.{MapLine}
use Rattle.rule_reader.specs.declared.rule.Term.{Term}
use Rattle.rule_reader.specs.declared.rule.Place.{Place}
use Rattle.rule_reader.specs.declared.rule.Rule.{Rule}
use Rattle.rule_reader.specs.declared.sections.Parts.{Parts}
use Rattle.rule_reader.specs.declared.sections.SectionKind.{SectionKind}
use Rattle.rule_reader.specs.declared.sections.SectionKind.TheVariants as kind
use Rattle.rule_reader.specs.Words.{Tok, MarkTok, TextTok, NumberTok, NameTok}
use Rattle.rule_reader.specs.Numbers.{number_of}
use Rattle.rule_reader.specs.Reading.{del_word, unit_weights}
use Rattle.rule_reader.specs.Verdict.{misses, loose_starts}
use Rattle.rule_reader.specs.Sections.{section_of, has, empty_parts, rule_of, rule_word, endrule_word, tolfak_word}

-- which points an index may name, and its value
pub record Index : Type 0 where
  pub bound : Bound
  pub value : ℕ

pub record Said : Type 0 where
  pub word : Tok
  pub index : Option Index

abbrev pub plain : Tok → Said
plain word = record { word = word; index = None }

abbrev pub naming : Tok → Bound → ℕ → Said
naming word bound value = record {
  word = word;
  index = Some (record { bound = bound; value = value });
}

abbrev pub words : List Said → List Tok
words said = map (λ s. s.word) said

-- one thing, and then another that may depend on its value
infixr 10 ◌▹◌
unfoldable pub ◌▹◌ : {A B : Type 0} → (List Said → A → Type 0) → (A → List Said → B → Type 0)
    → List Said → B → Type 0
◌▹◌ {A} L M said y = (x : A) × (front : List Said) × (back : List Said) × L front x × M x back y
    × (said ≡ front ++ back)

-- nothing more
unfoldable pub done : {A : Type 0} → A → List Said → A → Type 0
done x said y = (said ≡ []) × (y ≡ x)

-- one or the other
unfoldable pub either : {A : Type 0} → (List Said → A → Type 0) → (List Said → A → Type 0)
    → List Said → A → Type 0
either L M said y = L said y ⊎ M said y

-- as many as there are, the first of them with so many before it
unfoldable pub many : {A : Type 0} → (ℕ → List Said → A → Type 0) → ℕ → List Said → List A → Type 0
many entry before said [] = said ≡ []
many entry before said (x ∷ xs) = (front : List Said) × (back : List Said) × entry before front x
    × many entry (before + 1) back xs × (said ≡ front ++ back)

-- as many, and at most so many
unfoldable pub at_most : {A : Type 0} → ℕ → (ℕ → List Said → A → Type 0) → List Said → List A
    → Type 0
at_most most entry said xs = many entry 0 said xs × (length xs ≤ most)

-- how many there are at most, by the numbers that refusals have: 1 rules, 2 mappoints, 3 maplines, 4 newpoints, 5 newlines,
-- 6 freearea, 7 freearea2, 8 elements, 9 orientations, 10 terms behind the first of a row, 11 bytes of a name
abbrev pub Limits : Type 0
Limits = ℕ → ℕ

abbrev pub standard : Limits
standard what = slice_index (0 ∷ 256 ∷ 16 ∷ 16 ∷ 8 ∷ 24 ∷ 24 ∷ 24 ∷ 8 ∷ 16 ∷ 31 ∷ 200 ∷ []) what

-- ---- one word

unfoldable pub mark : ℕ → List Said → Unit {0} → Type 0
mark b said u = said ≡ plain (MarkTok b) ∷ []

unfoldable pub name : List ℕ → List Said → Unit {0} → Type 0
name bytes said u = said ≡ plain (NameTok bytes) ∷ []

unfoldable pub text : List Said → List ℕ → Type 0
text said bytes = said ≡ plain (TextTok bytes) ∷ []

-- a number in units of 1/10,000, at most the greatest in size
unfoldable pub number : ℕ → List Said → ℤ → Type 0
number greatest said n = (bytes : List ℕ) × (said ≡ plain (NumberTok bytes) ∷ [])
    × (number_of greatest bytes ≡ Some n)

unfoldable pub quality : List Said → ℕ → Type 0
quality said n = (bytes : List ℕ) × (said ≡ plain (NumberTok bytes) ∷ [])
    × (whole_of bytes 1000 ≡ Some n)

unfoldable pub index : Bound → List Said → ℕ → Type 0
index bound said n = (bytes : List ℕ) × (said ≡ naming (NumberTok bytes) bound n ∷ [])
    × (whole_of bytes 9999 ≡ Some n)

-- `X` or `Y`
abbrev pub letter : Bool → ℕ
letter false = 88
letter true = 89

-- a letter with digits behind it, in one word
unfoldable pub joined_variable : List Said → Bool × ℕ → Type 0
joined_variable said v = (digits : List ℕ) × (0 < length digits)
    × (said ≡ naming (NameTok (letter v.0 ∷ digits)) Mapped v.1 ∷ [])
    × (whole_of digits 9999 ≡ Some v.1)

-- a letter, and an index as a word of its own
abbrev pub parted_variable : Bool → List Said → Bool × ℕ → Type 0
parted_variable of_y = name (letter of_y ∷ []) ▹ λ u. index Mapped ▹ λ n. done (of_y, n)

abbrev pub variable : List Said → Bool × ℕ → Type 0
variable = either joined_variable (either (parted_variable false) (parted_variable true))

-- ---- entries

abbrev pub triple : List Said → Triple → Type 0
triple = mark 123 ▹ λ a. number 10000000 ▹ λ f1. mark 44 ▹ λ b. number 10000000 ▹ λ f2. mark 44 ▹ λ c. number 10000000 ▹ λ f3. mark 125 ▹ λ d. done (record { f1 = f1; f2 = f2; f3 = f3 })

-- weights, or 1, 0, 1 without any
abbrev pub tolerance : List Said → Triple → Type 0
tolerance = either triple (done unit_weights)

abbrev pub del : List Said → Bool → Type 0
del = either (name del_word ▹ λ u. done true) (done false)

-- weights and `del`, each at most once, in either order
abbrev pub marks : List Said → Triple × Bool → Type 0
marks = either (name del_word ▹ λ u. tolerance ▹ λ tol. done (tol, true))
    (either (triple ▹ λ tol. del ▹ λ d. done (tol, d)) (done (unit_weights, false)))

abbrev pub coordinates : List Said → ℤ × ℤ → Type 0
coordinates = mark 40 ▹ λ a. number 160000 ▹ λ x. mark 44 ▹ λ b. number 160000 ▹ λ y. mark 41 ▹ λ c. done (x, y)

abbrev pub map_point : ℕ → List Said → MapPoint → Type 0
map_point before = coordinates ▹ λ p. marks ▹ λ m. mark 59 ▹ λ c. done
    (record { x = p.0; y = p.1; tol = m.0 })

abbrev pub ends : Bound → Bound → List Said → ℕ × ℕ → Type 0
ends first second = mark 40 ▹ λ a. index first ▹ λ i. mark 44 ▹ λ b. index second ▹ λ j. mark 41 ▹ λ c. done (i, j)

abbrev pub line : Bound → Bound → List Said → MapLine → Type 0
line first second = ends first second ▹ λ e. marks ▹ λ m. mark 59 ▹ λ c. done
    (record { i = e.0; j = e.1; tol = m.0; del = m.1 })

-- the first line goes from point 1 to point 2
abbrev pub map_line : ℕ → List Said → MapLine → Type 0
map_line zero = line First Second
map_line (suc before) = line Mapped Mapped

abbrev pub term : List Said → Term → Type 0
term = number 160000 ▹ λ c. variable ▹ λ v. done
    (record { coefficient = c; of_y = v.0; point = v.1 })

-- terms with commas between them
abbrev pub terms : Limits → List Said → List Term → Type 0
terms most = term ▹ λ t. at_most (most 10) (λ k. mark 44 ▹ λ c. term) ▹ λ ts. done (t ∷ ts)

abbrev pub row : Limits → List Said → List Term → Type 0
row most = mark 123 ▹ λ a. either (done []) (terms most) ▹ λ ts. mark 125 ▹ λ b. done ts

-- no row, the row of x, or the rows of x and y
abbrev pub rows : Limits → List Said → List Term × List Term → Type 0
rows most = either (row most ▹ λ x. either (row most) (done []) ▹ λ y. done (x, y)) (done ([], []))

abbrev pub place : Limits → ℕ → List Said → Place → Type 0
place most before = coordinates ▹ λ p. rows most ▹ λ r. mark 59 ▹ λ c. done
    (record { x = p.0; y = p.1; row_x = r.0; row_y = r.1 })

abbrev pub pair : ℕ → List Said → ℕ × ℕ → Type 0
pair before = ends Any Any ▹ λ e. mark 59 ▹ λ c. done e

abbrev pub three : Bound → List Said → ℕ × ℕ × ℕ → Type 0
three bound = mark 40 ▹ λ a. index bound ▹ λ i. mark 44 ▹ λ b. index bound ▹ λ j. mark 44 ▹ λ c. index bound ▹ λ k. mark 41 ▹ λ d. mark 59 ▹ λ e. done (i, j, k)

abbrev pub element : ℕ → List Said → List ℕ → Type 0
element before = three Any ▹ λ t. done (t.0 ∷ t.1 ∷ t.2 ∷ [])

abbrev pub turn : ℕ → List Said → ℕ × ℕ × ℕ → Type 0
turn before = three Mapped

-- ---- sections

-- the word of a section of a kind that these parts don't have yet
unfoldable pub section_word : Parts → List Said → SectionKind → Type 0
section_word parts said kind = (bytes : List ℕ) × (said ≡ plain (NameTok bytes) ∷ [])
    × (section_of bytes ≡ Some kind) × (has kind parts ≡ false)

-- what stands behind the word of a section, and the parts with it
abbrev pub content : Limits → Parts → SectionKind → List Said → Parts → Type 0
content most parts kind.Quality = quality ▹ λ x. done (record parts { quality = Some x })
content most parts kind.MapPoints =
    at_most (most 2) map_point ▹ λ x. done (record parts { points = Some x })
content most parts kind.MapLines =
    at_most (most 3) map_line ▹ λ x. done (record parts { lines = Some x })
content most parts kind.NewPoints =
    at_most (most 4) (place most) ▹ λ x. done (record parts { new_points = Some x })
content most parts kind.NewLines =
    at_most (most 5) pair ▹ λ x. done (record parts { new_lines = Some x })
content most parts kind.FreeArea =
    at_most (most 6) (place most) ▹ λ x. done (record parts { area = Some x })
content most parts kind.FreeArea2 =
    at_most (most 7) (place most) ▹ λ x. done (record parts { limit = Some x })
content most parts kind.Elements =
    at_most (most 8) element ▹ λ x. done (record parts { elements = Some x })
content most parts kind.Orientations =
    at_most (most 9) turn ▹ λ x. done (record parts { turns = Some x })

abbrev pub section : Limits → Parts → List Said → Parts → Type 0
section most parts = section_word parts ▹ content most parts

-- so many sections
unfoldable pub sections : Limits → ℕ → Parts → List Said → Parts → Type 0
sections most zero parts = done parts
sections most (suc count) parts = section most parts ▹ sections most count

-- ---- rules

unfoldable pub rule_name : Limits → List Said → List ℕ → Type 0
rule_name most said bytes = text said bytes × (length bytes ≤ most 11)

-- sections, each of a kind that was not before
unfoldable pub any_sections : Limits → List Said → Parts → Type 0
any_sections most said parts = (count : ℕ) × sections most count empty_parts said parts

-- a rule, whatever its indices
abbrev pub rule_said : Limits → List Said → Rule → Type 0
rule_said most = name rule_word ▹ λ a. rule_name most ▹ λ bytes. any_sections most ▹ λ parts. name endrule_word ▹ λ b. done (rule_of bytes parts)

-- an index names a point that it may name
abbrev pub Hits : ℕ → ℕ → Option Index → Type 0
Hits points new_points None = Unit {0}
Hits points new_points (Some index) = misses index.bound index.value points new_points ≡ false

-- each index names a point that it may name, there is a mapped line, and at most three parts of the graph don't hold point 1
pub record Fitting (said : List Said) (rule : Rule) : Type 0 where
  pub indices : AllByRecursion (λ s. Hits (length rule.points)
      (length rule.new_points) s.index) said
  pub lines : 0 < length rule.lines
  pub starts : loose_starts (length rule.points) rule.lines ≤ 3

unfoldable pub whole_rule : ℕ → List Said → Rule → Type 0
whole_rule before said rule = rule_said standard said rule × Fitting said rule

-- ---- files

abbrev pub tolfak : List Said → Unit {0} → Type 0
tolfak = either (name tolfak_word ▹ λ a. number 160000 ▹ λ n. done tt) (done tt)

abbrev pub file_said : List Said → List Rule → Type 0
file_said = tolfak ▹ λ a. at_most (standard 1) whole_rule

abbrev pub file_form : Limits → List Said → List Rule → Type 0
file_form most = tolfak ▹ λ a. at_most (most 1) (λ before. rule_said most)

-- these words are a file with these rules within these limits, whatever the indices
abbrev pub Derives : Limits → List Tok → List Rule → Type 0
Derives most left rules = (said : List Said) × (words said ≡ left) × file_form most said rules

-- these words are a file with these rules
abbrev pub Admits : List Tok → List Rule → Type 0
Admits left rules = (said : List Said) × (words said ≡ left) × file_said said rules

-- these rules were read, unless memory ran out
abbrev pub IsReadAs : Result (List Rule) RuleRefusal → List Rule → Type 0
IsReadAs (Ok read) rules = read ≡ rules
IsReadAs (Err refusals.Memory) rules = Unit {0}
IsReadAs (Err refusal) rules = ⊥
