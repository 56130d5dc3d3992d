-- Reading sections, rules and a whole text.
use Rattle.std.specs.Prelude.{◌≡◌, ℕ, zero, suc, ◌+◌, ◌-◌, Bool, nat_lt, if◌then◌else◌, List, [], ◌∷◌, length, Option, Some, None, is_some, Result, Ok, Err, codes, unwrap_or}
use Rattle.std.specs.Str.{bytes_eq}
use Rattle.rule_reader.specs.declared.fault.Fault.{Fault}
use Rattle.rule_reader.specs.declared.fault.Fault.TheVariants.{Syntax, Number, TooMany, BadIndex, TooLoose}
use Rattle.rule_reader.specs.declared.fault.Stop.{Stop}
use Rattle.rule_reader.specs.declared.fault.Stop.TheVariants as stops
use Rattle.rule_reader.specs.declared.fault.RuleRefusal.{RuleRefusal}
use Rattle.rule_reader.specs.declared.fault.RuleRefusal.TheVariants as refusals
use Rattle.rule_reader.specs.declared.reader.Fit.{Fit}
use Rattle.rule_reader.specs.declared.reader.Fit.TheVariants.{Fits, Unfit}
use Rattle.rule_reader.specs.declared.rule.Rule.{Rule}
use Rattle.rule_reader.specs.declared.sections.Parts.{Parts}
use Rattle.rule_reader.specs.declared.sections.SectionKind.{SectionKind}
use Rattle.rule_reader.specs.declared.sections.SectionKind.TheVariants as kind
use Rattle.rule_reader.specs.Words.{Tok, NameTok, State, head, begun, at_start}
use Rattle.rule_reader.specs.Reading.{Read, ◌>>=◌, judged, is_at, name_at, number_at, quality_at, text_at, entries_at, map_point_at, map_line_at, place_at, pair_at, element_at, turn_at}
use Rattle.rule_reader.specs.Verdict.{verdict}

abbrev pub empty_parts : Parts
empty_parts = record {
  quality = None;
  points = None;
  lines = None;
  new_points = None;
  new_lines = None;
  area = None;
  limit = None;
  elements = None;
  turns = None;
}

abbrev pub section_of : List ℕ → Option SectionKind
section_of name =
    if bytes_eq name (codes "quality") then Some kind.Quality
    else if bytes_eq name (codes "mappoints") then Some kind.MapPoints
    else if bytes_eq name (codes "maplines") then Some kind.MapLines
    else if bytes_eq name (codes "newpoints") then Some kind.NewPoints
    else if bytes_eq name (codes "newlines") then Some kind.NewLines
    else if bytes_eq name (codes "freearea") then Some kind.FreeArea
    else if bytes_eq name (codes "freearea2") then Some kind.FreeArea2
    else if bytes_eq name (codes "elements") then Some kind.Elements
    else if bytes_eq name (codes "orientations") then Some kind.Orientations
    else None

-- whether a section of this kind was read
abbrev pub has : SectionKind → Parts → Bool
has kind.Quality parts = is_some parts.quality
has kind.MapPoints parts = is_some parts.points
has kind.MapLines parts = is_some parts.lines
has kind.NewPoints parts = is_some parts.new_points
has kind.NewLines parts = is_some parts.new_lines
has kind.FreeArea parts = is_some parts.area
has kind.FreeArea2 parts = is_some parts.limit
has kind.Elements parts = is_some parts.elements
has kind.Orientations parts = is_some parts.turns

abbrev pub fresh : Parts → Option SectionKind → Fit SectionKind
fresh parts None = Unfit
fresh parts (Some section) = if has section parts then Unfit else Fits section

abbrev pub section_fit : Parts → Option Tok → Fit SectionKind
section_fit parts (Some (NameTok name)) = fresh parts (section_of name)
section_fit parts _ = Unfit

-- the rule of this name and these sections
abbrev pub rule_of : List ℕ → Parts → Rule
rule_of name parts =
    record {
      name = name;
      quality = unwrap_or parts.quality 1;
      points = unwrap_or parts.points [];
      lines = unwrap_or parts.lines [];
      new_points = unwrap_or parts.new_points [];
      new_lines = unwrap_or parts.new_lines [];
      area = unwrap_or parts.area [];
      limit = unwrap_or parts.limit [];
      elements = unwrap_or parts.elements [];
      turns = unwrap_or parts.turns [];
    }

-- what stands behind the word of a section
unfoldable pub content_at : Parts → SectionKind → State → Read Parts
content_at parts kind.Quality st =
    quality_at st >>= λ x. Ok (record parts { quality = Some x.0 }, x.1)
content_at parts kind.MapPoints st =
    entries_at map_point_at 2 0 16 st >>= λ x. Ok (record parts { points = Some x.0 }, x.1)
content_at parts kind.MapLines st =
    entries_at map_line_at 3 0 16 st >>= λ x. Ok (record parts { lines = Some x.0 }, x.1)
content_at parts kind.NewPoints st =
    entries_at place_at 4 0 8 st >>= λ x. Ok (record parts { new_points = Some x.0 }, x.1)
content_at parts kind.NewLines st =
    entries_at pair_at 5 0 24 st >>= λ x. Ok (record parts { new_lines = Some x.0 }, x.1)
content_at parts kind.FreeArea st =
    entries_at place_at 6 0 24 st >>= λ x. Ok (record parts { area = Some x.0 }, x.1)
content_at parts kind.FreeArea2 st =
    entries_at place_at 7 0 24 st >>= λ x. Ok (record parts { limit = Some x.0 }, x.1)
content_at parts kind.Elements st =
    entries_at element_at 8 0 8 st >>= λ x. Ok (record parts { elements = Some x.0 }, x.1)
content_at parts kind.Orientations st =
    entries_at turn_at 9 0 16 st >>= λ x. Ok (record parts { turns = Some x.0 }, x.1)

unfoldable pub section_at : Parts → State → Read Parts
section_at parts st = do
  word ← judged (section_fit parts (head st.left)) st
  content_at parts word.0 word.1

abbrev pub rule_word : List ℕ
rule_word = codes "rule"

abbrev pub endrule_word : List ℕ
endrule_word = codes "endrule"

abbrev pub tolfak_word : List ℕ
tolfak_word = codes "tolfak"

-- sections up to the end of the rule, at most so many
unfoldable pub sections_at : ℕ → Parts → State → Read Parts
sections_at zero parts st = Ok (parts, st)
sections_at (suc room) parts st = if is_at endrule_word st then Ok (parts, st)
    else (section_at parts st >>= λ p. sections_at room p.0 p.1)

unfoldable pub name_of_rule_at : State → Read (List ℕ)
name_of_rule_at st = do
  name ← text_at st
  if nat_lt 200 (length name.0) then Err (TooMany name.1.rule 11) else Ok name

-- the fault of a rule that ends, if there is one
abbrev pub judged_rule : Option Fault → Rule → State → Read Rule
judged_rule None rule st = Ok (rule, st)
judged_rule (Some fault) rule st = Err fault

unfoldable pub rule_at : State → Read Rule
rule_at st = do
  a ← name_at rule_word st
  name ← name_of_rule_at a.1
  parts ← sections_at 9 empty_parts name.1
  b ← name_at endrule_word parts.1
  judged_rule (verdict b.1.rule b.1.uses (rule_of name.0 parts.0) (length parts.1.left))
      (rule_of name.0 parts.0) b.1

unfoldable pub tolfak_at : State → Read (Unit {0})
tolfak_at st = if is_at tolfak_word st
    then (name_at tolfak_word st >>= λ a. number_at 160000 a.1 >>= λ n. Ok (tt, n.1))
    else Ok (tt, st)

-- rules, as many as there is room for; so many were before
unfoldable pub rules_at : ℕ → ℕ → State → Read (List Rule)
rules_at before zero st = if is_at rule_word st then Err (TooMany (before + 1) 1) else Ok ([], st)
rules_at before (suc room) st = if is_at rule_word st
    then (rule_at (begun (before + 1) st) >>= λ r. rules_at (before + 1) room r.1 >>= λ rs. Ok
    (r.0 ∷ rs.0, rs.1)) else Ok ([], st)

-- a whole text
unfoldable pub file_at : State → Read (List Rule)
file_at st = do
  a ← tolfak_at st
  rules ← rules_at 0 256 a.1
  if nat_lt 0 (length rules.1.left) then Err (Syntax (length rules.1.left)) else Ok rules

-- the number of the word where so many of this many words are left
abbrev pub word_number : ℕ → ℕ → ℕ
word_number words left = words - left + 1

abbrev pub refusal_of : ℕ → Stop → RuleRefusal
refusal_of words stops.Memory = refusals.Memory
refusal_of words (stops.Fault (Syntax left)) = refusals.Syntax (word_number words left)
refusal_of words (stops.Fault (Number left)) = refusals.Number (word_number words left)
refusal_of words (stops.Fault (TooMany rule what)) = refusals.TooMany rule what
refusal_of words (stops.Fault (BadIndex rule left)) =
    refusals.BadIndex rule (word_number words left)
refusal_of words (stops.Fault (TooLoose rule)) = refusals.TooLoose rule

-- what reading a list of words gives
abbrev pub reading : List Tok → Read (List Rule)
reading words = file_at (at_start words)

-- what is read are the rules that reading gives, and a refusal is the fault that it meets, unless memory ran out
abbrev pub IsReading : Result (List Rule) RuleRefusal → List Tok → Type 0
IsReading (Ok rules) words = (st : State) × (reading words ≡ Ok (rules, st))
IsReading (Err refusals.Memory) words = Unit {0}
IsReading (Err refusal) words = (fault : Fault) × (reading words ≡ Err fault)
    × (refusal ≡ refusal_of (length words) (stops.Fault fault))
