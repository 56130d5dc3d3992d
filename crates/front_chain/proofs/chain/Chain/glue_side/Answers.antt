use Rattle.std.proofs.Common.{◌∙◌, sym}
use Rattle.front_chain.proofs.Sides.{next_left, next_joined, lines_joined}
use Rattle.front_chain.proofs.chain.Chain.glue_side.Goals as goal

pub returns-in-Some-clause-next : goal.returns-in-Some-clause-next
returns-in-Some-clause-next c = c.leave.ensures.next ∙ sym (next_left c.args.self.now.lines c.args.self.now.next c.args.side.from c.args.side.to c.in-Some.number (sym c.line_between.ensures ∙ c.in-Some.is))

pub returns-in-None-clause-lines : goal.returns-in-None-clause-lines
returns-in-None-clause-lines c = c.join.ensures.lines ∙ sym (lines_joined c.args.self.now.lines c.args.self.now.next c.args.side.from c.args.side.to (sym c.line_between.ensures ∙ c.in-None.is))

pub returns-in-None-clause-next : goal.returns-in-None-clause-next
returns-in-None-clause-next c = c.join.ensures.next ∙ sym (next_joined c.args.self.now.lines c.args.self.now.next c.args.side.from c.args.side.to (sym c.line_between.ensures ∙ c.in-None.is))
