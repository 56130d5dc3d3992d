-- The reader, seen as a draft.
use Rattle.std.specs.Prelude.{◌≡◌, ℕ}
use Rattle.std.specs.Ordering.{nat_cmp}
use Rattle.std.specs.BTreeSet.{contains}
use Rattle.in2d_reader.specs.declared.reader.Reader.{Reader}
use Rattle.in2d_reader.specs.Steps.{Draft, spot_of}
use Rattle.in2d_reader.specs.Grammar.{is_known}

abbrev pub draft_of : Reader → Draft
draft_of r = record {
  number = r.number;
  points = r.points.items;
  segments = r.segments.items;
  materials = r.materials.items;
  spot = spot_of r.place;
}

-- the reader knows the numbers of the points so far
abbrev pub KnowsNumbers : Reader → Type 0
KnowsNumbers r = (n : ℕ) → contains nat_cmp r.known n ≡ is_known n r.points.items
