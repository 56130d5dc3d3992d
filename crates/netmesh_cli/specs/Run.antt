-- The run that `mesh` makes of what it accepts, what it puts and writes of it, and what is true of it.
--
-- MeshInput     what is accepted: the geometry, the rules and the options
-- IsRunOf       this is its run: the applications in each domain are exactly the next ones
-- log_of ..     the bytes of the two files that are put, and the line that is written
-- IsExactRun    elements and front add up to each domain, after each application and in the mesh; and how it ends
use Rattle.std.specs.Prelude.{◌≡◌, ◌≢◌, ℕ, ◌<◌, ◌↔◌, ℤ, List, [], Option, Some, None, All}
use Rattle.std.specs.List.{AllZip}
use Rattle.word_scan.specs.declared.decimals.Dec.{Dec}
use Rattle.grid_geom.specs.declared.RatPoint.{RatPoint}
use Rattle.grid_geom.specs.declared.TheConstants.{LONGEST}
use Rattle.grid_geom.specs.Plane.{IsRational}
use Rattle.grid_geom.specs.Closed.{IsOff}
use Rattle.rule_reader.specs.declared.rule.Rule.{Rule}
use Rattle.geom_check.specs.Shift.{length_at}
use Rattle.geom_check.specs.Boundary.{edges_of}
use Rattle.geom_check.specs.Accepted.{WindsAtMostOnce, DoOverlap}
use Rattle.geom_check.specs.Domains.{domain_numbers}
use Rattle.geom_check.specs.Geometry.{PlanarMap}
use Rattle.mesh_run.specs.declared.Options.{Options}
use Rattle.mesh_run.specs.declared.WholeRun.{WholeRun}
use Rattle.mesh_run.specs.declared.domain_run.DomainRun.{DomainRun}
use Rattle.mesh_run.specs.declared.End.{End}
use Rattle.mesh_run.specs.declared.End.TheVariants.{Done as DoneEnd, Stuck as StuckEnd, Stopped as StoppedEnd}
use Rattle.mesh_run.specs.Steps.{state_after, NothingApplies}
use Rattle.mesh_run.specs.Runs.{opening_of, setting_of, IsWholeRun}
use Rattle.mesh_run.specs.Sum.{AreCovered}
use Rattle.mesh_run.specs.Mesh.{mesh_of_run}
use Rattle.vol_format.specs.Vol.{vol_text}
use Rattle.run_log.specs.Log.{log_text}
use Rattle.run_log.specs.Summary.{summary_line}
use Rattle.call_words.specs.declared.command.MeshOptions.{MeshOptions}
use Rattle.netmesh_cli.specs.declared.run.Input.{Input}
use Rattle.netmesh_cli.specs.declared.outcome.Outcome.{Outcome}
use Rattle.netmesh_cli.specs.declared.outcome.Outcome.TheVariants.{Done, Stuck, Stopped}

-- what `mesh` accepts: the geometry, the rules, and the options that it is given
pub record MeshInput : Type 0 where
  pub geometry : PlanarMap
  pub rules : List Rule
  pub options : MeshOptions

-- as the program holds it
abbrev pub input_of : Input → MeshInput
input_of input = record {
  geometry = input.geometry.now;
  rules = input.rules.now;
  options = input.options;
}

-- ---- options

-- the value that is given, or else this one
abbrev pub given_or : Option ℕ → ℕ → ℕ
given_or None usual = usual
given_or (Some value) usual = value

-- a greatest size in grid steps, at the shift of a geometry, or else the greatest there is
abbrev pub greatest_size : ℤ → Option Dec → ℕ
greatest_size shift None = LONGEST
greatest_size shift (Some size) = length_at shift size

-- the options of a run at the shift of its geometry: where they aren't given, the greatest size there is, a
-- grading of 0.3, classes 1 to 10, and no limit on applications
abbrev pub run_options : ℤ → MeshOptions → Options
run_options shift options = record {
  greatest = greatest_size shift options.maxh;
  grading = given_or options.grading 300;
  last = given_or options.class 10;
  limit = options.steps;
}

abbrev pub options_of : MeshInput → Options
options_of input = run_options input.geometry.shift input.options

-- ---- the run and its texts

-- this is the run of what is accepted: in each domain, from its opening on, the applications are exactly the
-- next ones
abbrev pub IsRunOf : MeshInput → WholeRun → Type 0
IsRunOf input run = IsWholeRun input.geometry input.rules (options_of input) run

-- the bytes of the log file
abbrev pub log_of : WholeRun → List ℕ
log_of run = log_text run

-- the bytes of the mesh file
abbrev pub mesh_of : MeshInput → WholeRun → List ℕ
mesh_of input run = vol_text (mesh_of_run run input.geometry.segments)

-- the line that sums the run up
abbrev pub line_of : MeshInput → WholeRun → List ℕ
line_of input run = summary_line run (mesh_of_run run input.geometry.segments)

-- the outcome of a run with this end
abbrev pub outcome_of : End → Outcome
outcome_of DoneEnd = Done
outcome_of StuckEnd = Stuck
outcome_of StoppedEnd = Stopped

-- ---- what is true of the run

-- no domain has a front that is left
abbrev pub HasNoFront : WholeRun → Type 0
HasNoFront run = All (λ r. r.front ≡ []) run.domains

-- nothing applies to the front that is left of domain d, where one is
abbrev pub NothingAppliesIn : MeshInput → ℕ → DomainRun → Type 0
NothingAppliesIn input d r = r.front ≢ []
    → NothingApplies (setting_of input.geometry input.rules (options_of input) d)
    (state_after (opening_of input.geometry (options_of input) d) r.applications)

-- what is true of the run of what is accepted
pub record IsExactRun (input : MeshInput) (run : WholeRun) : Type 0 where
  -- after each application and in the written mesh, each rational point off all edges has in every domain a
  -- winding number equal to the sum of those of the elements and of the front that is left, each 0 or 1; the
  -- applications are at most the doubled area in number
  pub covered : AreCovered input.geometry (options_of input) run
  -- off the segments that winding number is 0 or 1 in every domain, and 1 in one at most
  pub wound : (d : ℕ) → 0 < d → WindsAtMostOnce input.geometry.points input.geometry.segments d
  pub separate : (q : RatPoint) → IsRational q
      → IsOff q (edges_of input.geometry.points input.geometry.segments)
      → ¬ DoOverlap input.geometry.points input.geometry.segments q
  -- the end is Done exactly with empty fronts
  pub done : (run.end ≡ DoneEnd) ↔ HasNoFront run
  -- where no number of steps is given it is otherwise Stuck, where nothing applies
  pub stuck : input.options.steps ≡ None → ¬ HasNoFront run → run.end ≡ StuckEnd
  pub nothing : input.options.steps ≡ None
      → AllZip (NothingAppliesIn input) (domain_numbers input.geometry.segments) run.domains
