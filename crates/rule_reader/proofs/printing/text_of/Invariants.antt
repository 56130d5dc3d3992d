use Rattle.std.proofs.Common.{◌≡◌, take}
use Rattle.rule_reader.specs.Normal.{normal_text}
use Rattle.rule_reader.proofs.printing.text_of.Given as goal

abbrev pub invariant-loop-rule : goal.invariant-loop-rule
invariant-loop-rule l = l.out.items ≡ normal_text (take l.rule-index l.rules)
