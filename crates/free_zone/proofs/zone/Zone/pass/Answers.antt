use Rattle.std.proofs.Common.{◌∙◌, sym, IsTrue, IsFalse}
use Rattle.std.specs.List.{Contains}
use Rattle.free_zone.specs.InTheWay.{mapping, IsMappedLine, IsInside, IsBeside, IsFreePoint, IsFreeLine}
use Rattle.free_zone.proofs.Near.{listed_ends, different_ends}
use Rattle.free_zone.proofs.Told.{counted_as}
use Rattle.free_zone.proofs.zone.Zone.pass.Goals as goal

pub is_point_free-point_free-requires : goal.is_point_free-point_free-requires
is_point_free-point_free-requires c = (listed_ends c.args.front.now c.args.line c.unwrap-ends.result c.lines-lines.ensures.holds (sym c.line.ensures ∙ c.unwrap-ends.ensures)).0

pub is_line_free-line_free-requires-clause-from : goal.is_line_free-line_free-requires-clause-from
is_line_free-line_free-requires-clause-from c = (listed_ends c.args.front.now c.args.line c.unwrap-ends.result c.lines-lines.ensures.holds (sym c.line.ensures ∙ c.unwrap-ends.ensures)).0

pub is_line_free-line_free-requires-clause-to : goal.is_line_free-line_free-requires-clause-to
is_line_free-line_free-requires-clause-to c = (listed_ends c.args.front.now c.args.line c.unwrap-ends.result c.lines-lines.ensures.holds (sym c.line.ensures ∙ c.unwrap-ends.ensures)).1

pub is_line_free-line_free-requires-clause-different : goal.is_line_free-line_free-requires-clause-different
is_line_free-line_free-requires-clause-different c = different_ends c.args.front.now c.args.line c.unwrap-ends.result c.lines-lines.ensures.holds (sym c.line.ensures ∙ c.unwrap-ends.ensures)

pub returns : goal.returns
returns c = record {
  ends = c.unwrap-ends.result;
  on_front = sym c.line.ensures ∙ c.unwrap-ends.ensures;
  point = counted_as (IsTrue c.is_point_free-point_free.result) (IsFalse c.is_point_free-point_free.result)
      (IsFreePoint c.args.self.now (mapping c.args.front.now c.args.c.now c.args.mapped.now) c.unwrap-ends.result.0) (¬ (Contains c.args.mapped.now c.unwrap-ends.result.0) × IsInside c.args.self.now c.args.front.now c.unwrap-ends.result.0)
      c.unwrap-ends.result.0 c.args.found.now.point c.counted.result c.is_point_free-point_free.ensures.free c.is_point_free-point_free.ensures.in_way c.counted.ensures;
  line = counted_as (IsTrue c.is_line_free-line_free.result) (IsFalse c.is_line_free-line_free.result)
      (IsFreeLine c.args.self.now (mapping c.args.front.now c.args.c.now c.args.mapped.now) c.unwrap-ends.result) (¬ (IsMappedLine c.args.c.now c.args.mapped.now c.unwrap-ends.result) × ¬ (IsBeside c.args.self.now c.args.front.now c.unwrap-ends.result))
      c.args.line c.args.found.now.line c.counted-2.result c.is_line_free-line_free.ensures.free c.is_line_free-line_free.ensures.in_way c.counted-2.ensures;
}
