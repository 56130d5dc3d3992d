use Rattle.std.proofs.Common.{◌≡◌, ◌++◌, take}
use Rattle.std.specs.Prelude.{string_bytes}
use Rattle.std.specs.List.{flat_map}
use Rattle.run_log.specs.Log.{counted_numbers}
use Rattle.run_log.proofs.write.write_elements.Given as goal

abbrev pub invariant-loop-element : goal.invariant-loop-element
invariant-loop-element l = string_bytes l.text ≡ string_bytes l.initial.text ++ flat_map counted_numbers (take l.element-index l.elements)
