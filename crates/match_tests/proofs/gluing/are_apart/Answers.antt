use Rattle.std.proofs.Common.{sym, ◌∙◌}
use Rattle.rule_match.proofs.GluedParts.{all_distinct}
use Rattle.match_tests.proofs.gluing.are_apart.Goals as goal

pub returns-then-are_new : goal.returns-then-are_new
returns-then-are_new c = λ yes. all_distinct c.args.front.now.points c.args.made.now c.lines-lines.ensures.holds.numbered.different (sym c.are_new.ensures ∙ c.if-are_new.true) (sym c.do_differ.ensures ∙ yes)
