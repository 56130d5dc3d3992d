use Rattle.std.proofs.Common.{◌≡◌, take}
use Rattle.std.specs.List.{flat_map}
use Rattle.state_law.specs.State.{number_sides, glue_lines, next_after_all}
use Rattle.run_log.proofs.viewing.glue_elements.Given as goal

abbrev pub invariant-loop-element : goal.invariant-loop-element
invariant-loop-element l = (l.table.lines ≡ glue_lines l.initial.table.lines l.initial.table.next (flat_map number_sides (take l.element-index l.elements)))
    × (l.table.next ≡ next_after_all l.initial.table.lines l.initial.table.next (flat_map number_sides (take l.element-index l.elements)))
