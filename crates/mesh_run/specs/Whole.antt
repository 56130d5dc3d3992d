-- The run of all domains.
use Rattle.std.specs.Prelude.{Bool, true, false, List, map, if◌then◌else◌}
use Rattle.std.specs.List.{list_any}
use Rattle.geom_check.specs.declared.kinds.Segment.{Segment}
use Rattle.geom_check.specs.Domains.{domain_numbers}
use Rattle.size_field.specs.declared.pieces.Piece.{Piece}
use Rattle.mesh_run.specs.declared.End.{End}
use Rattle.mesh_run.specs.declared.End.TheVariants.{Done, Stuck, Stopped}
use Rattle.mesh_run.specs.declared.domain_run.DomainRun.{DomainRun}
use Rattle.mesh_run.specs.Opening.{unmeshed_run}

abbrev pub is_stopped : End → Bool
is_stopped Stopped = true
is_stopped _ = false

abbrev pub is_stuck : End → Bool
is_stuck Stuck = true
is_stuck _ = false

-- Stopped if a domain's end is, else Stuck if one is, else Done
abbrev pub end_of_all : List DomainRun → End
end_of_all runs =
    if list_any (λ r. is_stopped r.end) runs then Stopped
    else (if list_any (λ r. is_stuck r.end) runs then Stuck else Done)

-- the runs of the domains that the segments name, where no rule applies
abbrev pub unmeshed_runs : List Segment → List Piece → List DomainRun
unmeshed_runs segments pieces = map (λ d. unmeshed_run d segments pieces) (domain_numbers segments)
