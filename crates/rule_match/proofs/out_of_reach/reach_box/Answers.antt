use Rattle.std.proofs.Common.{◌∙◌, sym}
use Rattle.rule_match.proofs.Gathered.{line_pair}
use Rattle.rule_match.proofs.ReachBoxes.{reach_box_is}
use Rattle.rule_match.proofs.out_of_reach.reach_box.Goals as goal

pub frame_of-frame-requires : goal.frame_of-frame-requires
frame_of-frame-requires c = line_pair c.args.front.now.lines c.args.line c.unwrap-from.result (sym c.line.ensures ∙ c.unwrap-from.ensures)

pub returns : goal.returns
returns c = reach_box_is c.args.sizes.now c.args.front.now c.args.line c.args.reach
    (record { x = c.least_within.result; y = c.least_within-2.result }) (record { x = c.greatest_within.result; y = c.greatest_within-2.result }) (record {
      ends = c.unwrap-from.result;
      there = sym c.line.ensures ∙ c.unwrap-from.ensures;
      frame = c.frame_of-frame.result;
      is_frame = c.p1-start.ensures.frame;
      framed = c.frame_of-frame.ensures;
      start = c.p1-start.result;
      steps = c.widening_on_grid-far.result.steps;
      start_is = c.p1-start.ensures.value;
      steps_are = c.widening_on_grid-far.ensures.value;
      left = c.least_within.ensures;
      right = c.greatest_within.ensures;
      below = c.least_within-2.ensures;
      above = c.greatest_within-2.ensures;
    })
