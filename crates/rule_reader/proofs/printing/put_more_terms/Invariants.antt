use Rattle.std.proofs.Common.{◌≡◌, ◌++◌, take}
use Rattle.rule_reader.specs.Normal.{more_terms_text}
use Rattle.rule_reader.proofs.printing.put_more_terms.Given as goal

abbrev pub invariant-loop-term : goal.invariant-loop-term
invariant-loop-term l = l.out.items ≡ l.initial.out.items ++ more_terms_text (take l.term-index l.terms)
