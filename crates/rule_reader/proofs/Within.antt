-- Reading within any limits, whatever the indices.
use Rattle.std.specs.Prelude.{ℕ, zero, suc, ◌+◌, nat_lt, if◌then◌else◌, List, [], ◌∷◌, length, Some, Ok, Err}
use Rattle.rule_reader.specs.declared.fault.Fault.TheVariants.{Syntax, TooMany}
use Rattle.rule_reader.specs.declared.rule.Term.{Term}
use Rattle.rule_reader.specs.declared.rule.Place.{Place}
use Rattle.rule_reader.specs.declared.rule.Rule.{Rule}
use Rattle.rule_reader.specs.declared.sections.Parts.{Parts}
use Rattle.rule_reader.specs.declared.sections.SectionKind.{SectionKind}
use Rattle.rule_reader.specs.declared.sections.SectionKind.TheVariants as kind
use Rattle.rule_reader.specs.Words.{State, head}
use Rattle.rule_reader.specs.Reading.{Read, ◌>>=◌, judged, opens, is_at, mark_at, name_at, quality_at, text_at, coordinates_at, terms_at, map_point_at, map_line_at, pair_at, element_at, turn_at, entries_at}
use Rattle.rule_reader.specs.Sections.{empty_parts, section_fit, rule_of, rule_word, endrule_word, tolfak_at}
use Rattle.rule_reader.specs.Grammar.{Limits}
use Rattle.rule_reader.proofs.Good.{◌▸◌, pure}

unfoldable pub inner_terms_in : Limits → State → Read (List Term)
inner_terms_in most st = if opens 125 st then Ok ([], st) else terms_at (suc (most 10)) st

unfoldable pub row_in : Limits → State → Read (List Term)
row_in most = mark_at 123 ▸ λ a. inner_terms_in most ▸ λ ts. mark_at 125 ▸ λ b. pure ts

unfoldable pub any_row_in : Limits → State → Read (List Term)
any_row_in most st = if opens 123 st then row_in most st else Ok ([], st)

unfoldable pub rows_in : Limits → State → Read (List Term × List Term)
rows_in most st = if opens 123 st then (row_in most ▸ λ x. any_row_in most ▸ λ y. pure (x, y)) st else Ok (([], []), st)

unfoldable pub place_in : Limits → ℕ → State → Read Place
place_in most before = coordinates_at ▸ λ p. rows_in most ▸ λ r. mark_at 59 ▸ λ c. pure (record { x = p.0; y = p.1; row_x = r.0; row_y = r.1 })

unfoldable pub content_in : Limits → Parts → SectionKind → State → Read Parts
content_in most parts kind.Quality = quality_at ▸ λ x. pure (record parts { quality = Some x })
content_in most parts kind.MapPoints = entries_at map_point_at 2 0 (most 2) ▸ λ x. pure (record parts { points = Some x })
content_in most parts kind.MapLines = entries_at map_line_at 3 0 (most 3) ▸ λ x. pure (record parts { lines = Some x })
content_in most parts kind.NewPoints = entries_at (place_in most) 4 0 (most 4) ▸ λ x. pure (record parts { new_points = Some x })
content_in most parts kind.NewLines = entries_at pair_at 5 0 (most 5) ▸ λ x. pure (record parts { new_lines = Some x })
content_in most parts kind.FreeArea = entries_at (place_in most) 6 0 (most 6) ▸ λ x. pure (record parts { area = Some x })
content_in most parts kind.FreeArea2 = entries_at (place_in most) 7 0 (most 7) ▸ λ x. pure (record parts { limit = Some x })
content_in most parts kind.Elements = entries_at element_at 8 0 (most 8) ▸ λ x. pure (record parts { elements = Some x })
content_in most parts kind.Orientations = entries_at turn_at 9 0 (most 9) ▸ λ x. pure (record parts { turns = Some x })

unfoldable pub section_word_at : Parts → State → Read SectionKind
section_word_at parts st = judged (section_fit parts (head st.left)) st

unfoldable pub section_in : Limits → Parts → State → Read Parts
section_in most parts = section_word_at parts ▸ content_in most parts

unfoldable pub sections_in : Limits → ℕ → Parts → State → Read Parts
sections_in most zero parts st = Ok (parts, st)
sections_in most (suc room) parts st = if is_at endrule_word st then Ok (parts, st) else (section_in most parts st >>= λ p. sections_in most room p.0 p.1)

unfoldable pub name_in : Limits → State → Read (List ℕ)
name_in most st = do
  name ← text_at st
  if nat_lt (most 11) (length name.0) then Err (TooMany name.1.rule 11) else Ok name

-- a rule, whatever its indices
unfoldable pub body_in : Limits → State → Read Rule
body_in most = name_at rule_word ▸ λ a. name_in most ▸ λ bytes. sections_in most 9 empty_parts ▸ λ parts. name_at endrule_word ▸ λ b. pure (rule_of bytes parts)

unfoldable pub rules_in : Limits → ℕ → ℕ → State → Read (List Rule)
rules_in most before zero st = if is_at rule_word st then Err (TooMany (before + 1) 1) else Ok ([], st)
rules_in most before (suc room) st = if is_at rule_word st then (body_in most st >>= λ r. rules_in most (before + 1) room r.1 >>= λ rs. Ok (r.0 ∷ rs.0, rs.1)) else Ok ([], st)

unfoldable pub form_in : Limits → State → Read (List Rule)
form_in most = tolfak_at ▸ λ a. rules_in most 0 (most 1)

-- rules, and nothing behind them
unfoldable pub file_in : Limits → State → Read (List Rule)
file_in most st = do
  rules ← form_in most st
  if nat_lt 0 (length rules.1.left) then Err (Syntax (length rules.1.left)) else Ok rules
