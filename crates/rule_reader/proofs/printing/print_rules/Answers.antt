use Rattle.std.proofs.Common.{◌≡◌, List, subst}
use Rattle.std.specs.Prelude.{IfOk}
use Rattle.rule_reader.specs.declared.rule.Rule.{Rule}
use Rattle.rule_reader.specs.Normal.{normal_text}
use Rattle.rule_reader.proofs.PrintedRules.{is_again}
use Rattle.rule_reader.proofs.printing.print_rules.Goals as goal

pub returns-clause-again : goal.returns-clause-again
returns-clause-again c =
    is_again (λ text. text.items) c.text_of.result c.args.rules.now c.requires (subst (λ (rules : List Rule). IfOk c.text_of.result (λ text. text.items ≡ normal_text rules)) c.as_slice.ensures c.text_of.ensures)
