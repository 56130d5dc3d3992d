-- Where a walk of edge rows stands, in the code: at a place of a segment, or at the end of all.
use Rattle.std.specs.Prelude.{List, Option, Some, None}
use Rattle.geom_check.specs.declared.kinds.Segment.{Segment}
use Rattle.vol_format.specs.declared.EdgeRow.{EdgeRow}
use Rattle.mesh_check.specs.declared.rows.Stand.{Stand}
use Rattle.mesh_check.specs.Walked.{Places, DoWalk, StandsAt}

-- the walk stands there after the edge rows; where it stands nowhere, all segments are walked
abbrev pub IsStandAfter : Places → List Segment → List EdgeRow → Option Stand → Type 0
IsStandAfter ps segments rows None = DoWalk ps 1 segments rows
IsStandAfter ps segments rows (Some s) = StandsAt ps segments s.done s.at rows
