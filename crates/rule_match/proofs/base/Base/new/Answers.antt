use Rattle.std.proofs.Common.{◌∙◌, sym, refl}
use Rattle.rule_match.proofs.Gathered.{line_pair}
use Rattle.rule_match.proofs.BaseLines.{line_there}
use Rattle.rule_match.proofs.base.Base.new.Goals as goal

pub frame_of-frame-requires : goal.frame_of-frame-requires
frame_of-frame-requires c = line_pair c.args.front.now.lines c.args.line c.unwrap-from.result (sym c.line.ensures ∙ c.unwrap-from.ensures)

pub invariant_of-result : goal.invariant_of-result
invariant_of-result c = record {
  front = c.points-points.ensures.holds;
  on_front = line_there c.args.front.now.lines c.args.line c.unwrap-from.result (sym c.line.ensures ∙ c.unwrap-from.ensures);
  framed = c.p1-start.ensures.frame;
  surrounded = c.in_ok-around.ensures.surrounding;
  class_least = c.requires.class_least;
  class_greatest = c.requires.class_greatest;
}

pub returns-clause-base : goal.returns-clause-base
returns-clause-base c = record {
  base = record {
    front = c.points-points.ensures.holds;
    on_front = line_there c.args.front.now.lines c.args.line c.unwrap-from.result (sym c.line.ensures ∙ c.unwrap-from.ensures);
    framed = c.p1-start.ensures.frame;
    surrounded = c.in_ok-around.ensures.surrounding;
    class_least = c.requires.class_least;
    class_greatest = c.requires.class_greatest;
  };
  front = refl;
  number = refl;
  same_class = refl;
  framed = c.frame_of-frame.ensures;
}
