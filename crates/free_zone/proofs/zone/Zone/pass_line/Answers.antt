use Rattle.std.proofs.Common.{◌∙◌, sym, IsTrue, IsFalse}
use Rattle.free_zone.specs.InTheWay.{mapping, IsLineInWay}
use Rattle.free_zone.specs.Walked.{IsFreeAt}
use Rattle.free_zone.proofs.Near.{listed_ends, different_ends}
use Rattle.free_zone.proofs.Listed.{above, free_at, in_way}
use Rattle.free_zone.proofs.Told.{counted_as}
use Rattle.free_zone.proofs.zone.Zone.pass_line.Goals as goal

pub is_line_free-free-requires-clause-from : goal.is_line_free-free-requires-clause-from
is_line_free-free-requires-clause-from c = (listed_ends c.args.front.now c.args.line c.unwrap-ends.result c.lines-lines.ensures.holds (sym c.line.ensures ∙ c.unwrap-ends.ensures)).0

pub is_line_free-free-requires-clause-to : goal.is_line_free-free-requires-clause-to
is_line_free-free-requires-clause-to c = (listed_ends c.args.front.now c.args.line c.unwrap-ends.result c.lines-lines.ensures.holds (sym c.line.ensures ∙ c.unwrap-ends.ensures)).1

pub is_line_free-free-requires-clause-different : goal.is_line_free-free-requires-clause-different
is_line_free-free-requires-clause-different c = different_ends c.args.front.now c.args.line c.unwrap-ends.result c.lines-lines.ensures.holds (sym c.line.ensures ∙ c.unwrap-ends.ensures)

pub returns-then-is_at_most : goal.returns-then-is_at_most
returns-then-is_at_most c = above c.args.self.now (mapping c.args.front.now c.args.c.now c.args.mapped.now) c.args.line c.args.least (c.is_at_most.ensures.0 c.if-is_at_most.true)

pub returns : goal.returns
returns c = counted_as (IsTrue c.is_line_free-free.result) (IsFalse c.is_line_free-free.result)
    (IsFreeAt c.args.self.now (mapping c.args.front.now c.args.c.now c.args.mapped.now) c.args.line) (IsLineInWay c.args.self.now (mapping c.args.front.now c.args.c.now c.args.mapped.now) c.args.line)
    c.args.line c.args.least c.counted.result
    (λ t. free_at c.args.self.now (mapping c.args.front.now c.args.c.now c.args.mapped.now) c.args.line c.unwrap-ends.result (sym c.line.ensures ∙ c.unwrap-ends.ensures) (c.is_line_free-free.ensures.free t))
    (λ t. in_way c.args.self.now (mapping c.args.front.now c.args.c.now c.args.mapped.now) c.args.line c.unwrap-ends.result (sym c.line.ensures ∙ c.unwrap-ends.ensures) (c.is_line_free-free.ensures.in_way t))
    c.counted.ensures
