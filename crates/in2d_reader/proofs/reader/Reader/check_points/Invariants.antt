use Rattle.std.proofs.Common.{◌≡◌, ◌+◌, drop}
use Rattle.in2d_reader.specs.Steps.{known_from}
use Rattle.in2d_reader.proofs.reader.Reader.check_points.Given as goal

abbrev pub invariant-loop-row : goal.invariant-loop-row
invariant-loop-row l = (known_from l.self.points.items l.segment (drop l.row-index l.self.segments.items) ≡ known_from l.self.points.items 1 l.self.segments.items) × (l.segment ≡ l.row-index + 1)
