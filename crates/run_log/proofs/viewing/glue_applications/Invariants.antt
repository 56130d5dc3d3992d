use Rattle.std.proofs.Common.{◌≡◌, take, length, sum_by}
use Rattle.std.specs.List.{flat_map}
use Rattle.state_law.specs.State.{number_sides, glue_lines, next_after_all}
use Rattle.run_log.proofs.viewing.glue_applications.Given as goal

abbrev pub invariant-loop-application : goal.invariant-loop-application
invariant-loop-application l = (l.table.lines ≡ glue_lines l.initial.table.lines l.initial.table.next (flat_map (λ a. flat_map number_sides a.elements) (take l.application-index l.applications)))
    × (l.table.next ≡ next_after_all l.initial.table.lines l.initial.table.next (flat_map (λ a. flat_map number_sides a.elements) (take l.application-index l.applications)))
    × (l.count ≡ sum_by (λ a. length a.elements) (take l.application-index l.applications))
