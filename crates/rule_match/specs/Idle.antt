-- Lists of rules of which none can apply up to a class.
--
-- SomeMayApply   one of the rules is live and of quality at most the class
-- NoneApplies    no line of any front has a candidate at the class or below it
use Rattle.std.specs.Prelude.{◌≡◌, ℕ, ◌≤◌, List, Some, slice_get}
use Rattle.rule_reader.specs.declared.rule.Rule.{Rule}
use Rattle.rule_maps.specs.Inert.{IsLive}
use Rattle.size_field.specs.Size.{SizeField}
use Rattle.state_law.specs.State.{State}
use Rattle.rule_match.specs.Least.{HasNone}

-- one of the rules is live and of quality at most the class
pub record SomeMayApply (class : ℕ) (rules : List Rule) : Type 0 where
  pub number : ℕ
  pub rule : Rule
  pub is_rule : slice_get rules number ≡ Some rule
  pub live : IsLive rule
  pub quality : rule.quality ≤ class

-- no line of any front has a candidate at the class or below it, whatever the sizes
pub record NoneApplies (class : ℕ) (rules : List Rule) : Type 0 where
  pub none : (sizes : SizeField) (st : State) (line n : ℕ) → n ≤ class
      → HasNone sizes st rules line n
