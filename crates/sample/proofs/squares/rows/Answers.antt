use Rattle.std.proofs.Common.{◌∙◌}
use Rattle.sample.proofs.Filed.{filed, both_joined}
use Rattle.sample.proofs.squares.rows.Goals as goal

pub returns : goal.returns
returns c = filed c.args.n _ c.whole.ensures (c.from_vec.ensures ∙ c.in_ok-points.ensures)
    (both_joined c.in_ok-segments.segments.items c.in_ok-upwards.upwards.items _ _ _ (c.from_vec-2.ensures ∙ c.in_ok-append.ensures.items) c.in_ok-segments.ensures c.in_ok-upwards.ensures)
    (c.from_vec-3.ensures ∙ c.new.ensures.items)
