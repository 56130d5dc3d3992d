use Rattle.std.proofs.Common.{◌≡◌, ◌++◌, take}
use Rattle.std.specs.List.{flat_map}
use Rattle.size_field.specs.Fields.{sources_beside}
use Rattle.size_field.specs.Cutting.{greatest_in}
use Rattle.size_field.proofs.fields.sizes_of.Given as goal

abbrev pub invariant-loop-piece : goal.invariant-loop-piece
invariant-loop-piece l = l.sizes ≡ record {
  greatest = greatest_in l.g.domains l.greatest l.domain;
  grading = l.grading;
  sources = l.g.flagged ++ flat_map (sources_beside l.domain l.g.segments) (take l.piece-index l.pieces);
}
