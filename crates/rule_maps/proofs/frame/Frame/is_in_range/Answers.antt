use Rattle.rule_maps.proofs.Frames.{frame_bounds}
use Rattle.rule_maps.proofs.frame.Frame.is_in_range.Goals as goal

pub is_near-requires-clause-high : goal.is_near-requires-clause-high
is_near-requires-clause-high c = (frame_bounds _ c.self.invariant).high

pub is_near-requires-then-is_near-clause-high : goal.is_near-requires-then-is_near-clause-high
is_near-requires-then-is_near-clause-high c = (frame_bounds _ c.self.invariant).high
