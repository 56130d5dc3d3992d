use Rattle.std.proofs.Common.{sym, ◌∙◌, arith}
use Rattle.vol_format.proofs.Told.{items_few}
use Rattle.vol_format.proofs.read.read.Goals as goal

pub known-requires : goal.known-requires
known-requires c =
    omega (arith, items_few c.args.shift.now c.args.bytes.now c.places_of.result c.in_ok-mesh.mesh c.new-reader.result c.mesh.new.reader c.in_ok-end.field-0 c.places_of.ensures.value c.new-reader.ensures c.in_ok-mesh.ensures (sym c.end.ensures ∙ c.in_ok-end.was))
