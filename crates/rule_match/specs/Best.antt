-- The application that a search answers for a line and a class.
--
-- IsBest   the application of the line's least candidate at the class
use Rattle.std.specs.Prelude.{ℕ, ◌≡◌, List}
use Rattle.rule_reader.specs.declared.rule.Rule.{Rule}
use Rattle.size_field.specs.Size.{SizeField}
use Rattle.state_law.specs.State.{State}
use Rattle.rule_match.specs.declared.application.Application.{Application}
use Rattle.rule_match.specs.Candidate.{Attempt}
use Rattle.rule_match.specs.Applied.{application}
use Rattle.rule_match.specs.Least.{IsLeast}

-- the application is that of the least candidate of the line at the class
pub record IsBest (sizes : SizeField) (st : State) (rules : List Rule) (line class : ℕ) (a : Application) : Type 0 where
  pub attempt : Attempt
  pub least : IsLeast sizes st rules line class attempt
  pub gives : a ≡ application st attempt
