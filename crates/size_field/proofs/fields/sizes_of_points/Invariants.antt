use Rattle.std.proofs.Common.{◌≡◌, take}
use Rattle.size_field.proofs.fields.sizes_of_points.Given as goal

abbrev pub invariant-loop-source : goal.invariant-loop-source
invariant-loop-source l = l.sizes ≡ record { greatest = l.greatest; grading = l.grading; sources = take l.source-index l.g.flagged }
