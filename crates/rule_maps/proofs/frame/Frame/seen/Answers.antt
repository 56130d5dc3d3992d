use Rattle.rule_maps.proofs.Frames.{frame_bounds}
use Rattle.rule_maps.proofs.frame.Frame.seen.Goals as goal

pub dot_of-requires-clause-a_small : goal.dot_of-requires-clause-a_small
dot_of-requires-clause-a_small c = (frame_bounds _ c.self.invariant).way_within

pub cross_of-requires-clause-a_small : goal.cross_of-requires-clause-a_small
cross_of-requires-clause-a_small c = (frame_bounds _ c.self.invariant).way_within
