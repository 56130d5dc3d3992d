use Rattle.std.proofs.Common.{◌≡◌, ◌++◌, map, take}
use Rattle.std.specs.List.{flat_map}
use Rattle.in2d_reader.specs.Normal.{line_text, material_line}
use Rattle.in2d_reader.proofs.printing.put_materials.Given as goal

abbrev pub invariant-loop-row : goal.invariant-loop-row
invariant-loop-row l = l.out.items ≡ l.initial.out.items ++ flat_map line_text (map material_line (take l.row-index l.rows))
