use mir.Val.{SFits}
use mir.Syntax.{w64}
use lib.IntN.{◌*ℤ◌}
use mathlib.Core.Path.{refl}
use Rattle.std.proofs.lemmas.Int.{to_z-of_z}
use Rattle.rule_maps.proofs.Frames.{long_between, unit_fits, stored_frame, stored_kept}
use Rattle.rule_maps.proofs.frame.Frame.new.Goals as goal

pub height_of-h-requires-clause-long : goal.height_of-h-requires-clause-long
height_of-h-requires-clause-long c = let f : SFits w64 c.length_of-len.result = record { sfits = c.length_of-len.type_inv } in simp to_z-of_z (long_between c.args.p1 c.args.p2 c.way_to-e.result c.length_of-len.result c.requires.different c.way_to-e.ensures.value c.length_of-len.ensures.root)

pub overflow_mul-result : goal.overflow_mul-result
overflow_mul-result c = unit_fits c.length_of-len.result c.height_of-h.result c.length_of-len.ensures.root.not_negative c.length_of-len.ensures.small (record { least = c.height_of-h.ensures.least; greatest = c.height_of-h.ensures.greatest })

pub invariant_of-result : goal.invariant_of-result
invariant_of-result c = stored_kept c.args.p1 c.args.p2 c.args.size (record { p1 = c.args.p1; e = c.way_to-e.result; len = c.length_of-len.result; h = c.height_of-h.result; q = c.length_of-len.result *ℤ c.height_of-h.result; middle = record { x = c.middle_of.result; y = c.middle_of-2.result } })
    (record {
      base = record { start_on = c.requires.start_on; end_on = c.requires.end_on; different = c.requires.different; positive = c.requires.positive; small = c.requires.small };
      start = refl;
      direction = c.way_to-e.ensures.value;
      length = c.length_of-len.ensures.root;
      not_longer = c.length_of-len.ensures.small;
      high = c.height_of-h.ensures.value;
      high_within = record { least = c.height_of-h.ensures.least; greatest = c.height_of-h.ensures.greatest };
      unit = refl;
      middle_x = c.middle_of.ensures.value;
      middle_y = c.middle_of-2.ensures.value;
      middle_x_on = c.middle_of.ensures.on;
      middle_y_on = c.middle_of-2.ensures.on;
    })

pub returns : goal.returns
returns c = stored_frame c.args.p1 c.args.p2 c.args.size (record { p1 = c.args.p1; e = c.way_to-e.result; len = c.length_of-len.result; h = c.height_of-h.result; q = c.length_of-len.result *ℤ c.height_of-h.result; middle = record { x = c.middle_of.result; y = c.middle_of-2.result } })
    (record {
      base = record { start_on = c.requires.start_on; end_on = c.requires.end_on; different = c.requires.different; positive = c.requires.positive; small = c.requires.small };
      start = refl;
      direction = c.way_to-e.ensures.value;
      length = c.length_of-len.ensures.root;
      not_longer = c.length_of-len.ensures.small;
      high = c.height_of-h.ensures.value;
      high_within = record { least = c.height_of-h.ensures.least; greatest = c.height_of-h.ensures.greatest };
      unit = refl;
      middle_x = c.middle_of.ensures.value;
      middle_y = c.middle_of-2.ensures.value;
      middle_x_on = c.middle_of.ensures.on;
      middle_y_on = c.middle_of-2.ensures.on;
    })
