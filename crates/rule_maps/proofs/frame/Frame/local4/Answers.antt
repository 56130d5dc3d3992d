use Rattle.rule_maps.proofs.Ranges.{along_in_range, left_in_range}
use Rattle.rule_maps.proofs.frame.Frame.local4.Goals as goal

pub in_units-requires-clause-small : goal.in_units-requires-clause-small
in_units-requires-clause-small c = rw c.seen-seen.ensures.along (along_in_range c.args.self.now c.args.p c.seen-seen.ensures.frame (record { on = c.requires.on; columns = c.requires.columns; rows = c.requires.rows }))

pub in_units-requires-2-clause-small : goal.in_units-requires-2-clause-small
in_units-requires-2-clause-small c = rw c.seen-seen.ensures.left (left_in_range c.args.self.now c.args.p c.seen-seen.ensures.frame (record { on = c.requires.on; columns = c.requires.columns; rows = c.requires.rows }))
