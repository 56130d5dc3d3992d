use Rattle.std.proofs.Common.{◌≡◌, ◌++◌, take}
use Rattle.std.specs.Prelude.{string_bytes}
use Rattle.std.specs.List.{flat_map}
use Rattle.vol_format.specs.Vol.{element_row}
use Rattle.vol_format.proofs.write.write_elements.Given as goal

abbrev pub invariant-loop-element : goal.invariant-loop-element
invariant-loop-element l = string_bytes l.text ≡ string_bytes l.initial.text ++ flat_map element_row (take l.element-index l.elements)
