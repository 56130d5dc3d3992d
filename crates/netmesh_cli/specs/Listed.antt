-- What the verb `rules` writes of rules.
--
-- state_word      the word for why a rule never applies, or `live`
-- state_line      the line of a rule: its number, its state, and its name
-- AreStateLines   the lines of rules, each with the state that it has
-- IsListing       these lines, an empty line, and the normal text
use Rattle.std.specs.Prelude.{◌≡◌, ℕ, ◌+◌, List, [], ◌∷◌, ◌++◌, codes, Option, Some, None}
use Rattle.std.specs.List.{AllZip}
use Rattle.std.specs.Fmt.{decimal}
use Rattle.rule_reader.specs.declared.rule.Rule.{Rule}
use Rattle.rule_reader.specs.Normal.{normal_text}
use Rattle.rule_maps.specs.declared.inert.Inert.{Inert}
use Rattle.rule_maps.specs.declared.inert.Inert.TheVariants.{Unbalanced, BaseKept, NoElement, IdlePoint, BadZone}
use Rattle.rule_maps.specs.Inert.{HasState}

-- the word for a rule's state: why it never applies, or `live`
abbrev pub state_word : Option Inert → List ℕ
state_word None = codes "live"
state_word (Some Unbalanced) = codes "unbalanced"
state_word (Some BaseKept) = codes "basekept"
state_word (Some NoElement) = codes "noelement"
state_word (Some IdlePoint) = codes "idlepoint"
state_word (Some BadZone) = codes "badzone"

-- the line of a rule: its number, its state, and its name in quotes
abbrev pub state_line : ℕ → Option Inert → Rule → List ℕ
state_line number state r =
    decimal number ++ (codes " " ++ (state_word state ++ (codes " \"" ++ (r.name ++ codes "\"\n"))))

-- the lines of rules that have these states; the rules are numbered from this number on
abbrev pub state_lines : ℕ → List Rule → List (Option Inert) → List ℕ
state_lines number [] states = []
state_lines number (r ∷ rules) [] = []
state_lines number (r ∷ rules) (state ∷ states) =
    state_line number state r ++ state_lines (number + 1) rules states

-- the line of each rule, with the state that it has; the rules are numbered from 1
pub record AreStateLines (rules : List Rule) (lines : List ℕ) : Type 0 where
  pub states : List (Option Inert)
  pub each : AllZip HasState rules states
  pub are : lines ≡ state_lines 1 rules states

-- the lines of the rules, then an empty line, then the normal text
pub record IsListing (rules : List Rule) (text : List ℕ) : Type 0 where
  pub lines : List ℕ
  pub states : AreStateLines rules lines
  pub whole : text ≡ lines ++ (codes "\n" ++ normal_text rules)
