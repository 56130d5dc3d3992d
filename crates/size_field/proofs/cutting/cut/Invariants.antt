use Rattle.std.proofs.Common.{◌≡◌, ◌+◌, ◌++◌, drop}
use Rattle.size_field.specs.Cutting.{parts_of, pieces_from, pieces_of}
use Rattle.size_field.proofs.cutting.cut.Given as goal

-- the pieces so far, and those of the segments that are left
abbrev pub invariant-loop-index : goal.invariant-loop-index
invariant-loop-index l =
    l.pieces.items ++ pieces_from (parts_of l.g l.greatest l.grading) (l.index + 1) (drop l.index l.g.segments) ≡ pieces_of l.g l.greatest l.grading
