-- What each verb takes, puts and makes: one case of each definition for a verb. All else that the program
-- promises of a verb follows from these cases, in one way for all of them.
--
-- Job           what is asked for, of what is built
-- takes_of      the files that it takes, in order
-- puts_of       the names under which it puts files, in order
-- EndsSo        the outcomes that it may have, where it isn't refused
-- Made          what is made: the files to be put, the answer, and the outcome
-- Makes         this is made of the files that are held
use Rattle.std.specs.Prelude.{◌≡◌, ℕ, ◌≤◌, List, [], ◌∷◌, length, map, IfSome}
use Rattle.folder_io.specs.Names.{Files}
use Rattle.in2d_reader.specs.declared.geometry.RawGeometry.{RawGeometry}
use Rattle.rule_reader.specs.declared.rule.Rule.{Rule}
use Rattle.geom_check.specs.Placed.{IsReadableIfAny}
use Rattle.geom_check.specs.Geometry.{PlanarMap}
use Rattle.vol_format.specs.declared.Mesh.{Mesh}
use Rattle.mesh_check.specs.declared.verdict.Verdict.{Verdict}
use Rattle.mesh_check.specs.Verdict.{IsVerdict}
use Rattle.mesh_run.specs.declared.WholeRun.{WholeRun}
use Rattle.run_log.specs.declared.state.View.{View}
use Rattle.mesh_run.specs.declared.End.{End}
use Rattle.sample_run.specs.Sampled.{IsSampled}
use Rattle.netmesh_cli.specs.declared.outcome.Outcome.{Outcome}
use Rattle.netmesh_cli.specs.declared.outcome.Outcome.TheVariants.{Done, Stuck, Stopped, Good, Bad, Shown}
use Rattle.netmesh_cli.specs.declared.made.Put.{Put as PutValue}
use Rattle.netmesh_cli.specs.declared.made.Made.{Made as MadeValue}
use Rattle.call_words.specs.declared.command.MeshCall.{MeshCall}
use Rattle.call_words.specs.declared.command.MeshOptions.{MeshOptions}
use Rattle.netmesh_cli.specs.declared.asked.Asked.{Asked}
use Rattle.netmesh_cli.specs.declared.asked.Asked.TheVariants.{Mesh as MeshAsked, Geom, Rules}
use Rattle.netmesh_cli.specs.declared.asked.Asked.TheVariants.{Check, View as ViewAsked, Gen}
use Rattle.call_words.specs.Commands.{Task, MeshTask, MeshOf, GeomOf, RulesOf, CheckOf, ViewOf, GenOf}
use Rattle.netmesh_cli.specs.Held.{HoldsGeometry, HoldsRules, HoldsVol, HoldsState}
use Rattle.netmesh_cli.specs.Taking.{Taken, geometry_at, rule_file_at, mesh_at, state_log_at}
use Rattle.netmesh_cli.specs.Run.{MeshInput, IsRunOf, log_of, mesh_of, line_of, outcome_of, IsExactRun}
use Rattle.netmesh_cli.specs.Shown.{shown_text}
use Rattle.netmesh_cli.specs.Listed.{IsListing}
use Rattle.netmesh_cli.specs.Judged.{verdict_line, judged}
use Rattle.netmesh_cli.specs.Viewed.{view_text}

-- ---- what is asked for

-- the verbs that are built: files are given by their names
pub data Job : Type 0 where
  MeshJob : MeshTask → Job
  GeomJob : List ℕ → Job
  RulesJob : List ℕ → Job
  -- the geometry and the mesh
  CheckJob : List ℕ → List ℕ → Job
  -- the log, the domain and the step
  ViewJob : List ℕ → ℕ → ℕ → Job
  -- the squares each way, and the parts of a side
  GenJob : ℕ → ℕ → Job

-- as the words of a call ask for it
abbrev pub task_of_job : Job → Task
task_of_job (MeshJob task) = MeshOf task
task_of_job (GeomJob geometry) = GeomOf geometry
task_of_job (RulesJob rules) = RulesOf rules
task_of_job (CheckJob geometry mesh) = CheckOf geometry mesh
task_of_job (ViewJob log domain step) = ViewOf log domain step
task_of_job (GenJob squares parts) = GenOf squares parts

-- as the program reads it off the words
abbrev pub task_of_mesh : MeshCall → MeshTask
task_of_mesh call = record {
  geometry = call.geometry.now;
  rules = call.rules.now;
  mesh = call.mesh.now;
  log = call.log.now;
  options = call.options;
}

abbrev pub job_of : Asked → Job
job_of (MeshAsked call) = MeshJob (task_of_mesh call)
job_of (Geom geometry) = GeomJob geometry.now
job_of (Rules rules) = RulesJob rules.now
job_of (Check geometry mesh) = CheckJob geometry.now mesh.now
job_of (ViewAsked log domain step) = ViewJob log.now domain step
job_of (Gen squares parts) = GenJob squares parts

-- the options of `mesh` are in the ranges that words may give them
pub record AreInRange (options : MeshOptions) : Type 0 where
  pub maxh : IsReadableIfAny options.maxh
  pub grading : IfSome options.grading (λ n. n ≤ 10000)
  pub class_least : IfSome options.class (λ n. 1 ≤ n)
  pub class_greatest : IfSome options.class (λ n. n ≤ 16)

-- so many squares each way, and parts to a side, as words may ask for
pub record AreFew (squares parts : ℕ) : Type 0 where
  pub squares_least : 1 ≤ squares
  pub squares_greatest : squares ≤ 8
  pub parts_least : 1 ≤ parts
  pub parts_greatest : parts ≤ 16

abbrev pub IsInRange : Job → Type 0
IsInRange (MeshJob task) = AreInRange task.options
IsInRange (GeomJob geometry) = Unit {0}
IsInRange (RulesJob rules) = Unit {0}
IsInRange (CheckJob geometry mesh) = Unit {0}
IsInRange (ViewJob log domain step) = domain ≤ 64
IsInRange (GenJob squares parts) = AreFew squares parts

-- ---- what is taken and put

abbrev pub takes_of : Job → List Taken
takes_of (MeshJob task) = geometry_at task.geometry ∷ rule_file_at task.rules ∷ []
takes_of (GeomJob geometry) = geometry_at geometry ∷ []
takes_of (RulesJob rules) = rule_file_at rules ∷ []
takes_of (CheckJob geometry mesh) = geometry_at geometry ∷ mesh_at geometry mesh ∷ []
takes_of (ViewJob log domain step) = state_log_at domain step log ∷ []
takes_of (GenJob squares parts) = []

-- the log is put before the mesh
abbrev pub puts_of : Job → List (List ℕ)
puts_of (MeshJob task) = task.log ∷ task.mesh ∷ []
puts_of (GeomJob geometry) = []
puts_of (RulesJob rules) = []
puts_of (CheckJob geometry mesh) = []
puts_of (ViewJob log domain step) = []
puts_of (GenJob squares parts) = []

abbrev pub IsRunOutcome : Outcome → Type 0
IsRunOutcome Done = Unit {0}
IsRunOutcome Stuck = Unit {0}
IsRunOutcome Stopped = Unit {0}
IsRunOutcome _ = ⊥

-- a run without a limit on its steps is never stopped
abbrev pub IsDoneOrStuck : Outcome → Type 0
IsDoneOrStuck Done = Unit {0}
IsDoneOrStuck Stuck = Unit {0}
IsDoneOrStuck _ = ⊥

abbrev pub IsShown : Outcome → Type 0
IsShown Shown = Unit {0}
IsShown _ = ⊥

abbrev pub IsVerdictOutcome : Outcome → Type 0
IsVerdictOutcome Good = Unit {0}
IsVerdictOutcome Bad = Unit {0}
IsVerdictOutcome _ = ⊥

abbrev pub EndsSo : Job → Outcome → Type 0
EndsSo (MeshJob task) = IsRunOutcome
EndsSo (GeomJob geometry) = IsShown
EndsSo (RulesJob rules) = IsShown
EndsSo (CheckJob geometry mesh) = IsVerdictOutcome
EndsSo (ViewJob log domain step) = IsShown
EndsSo (GenJob squares parts) = IsDoneOrStuck

-- ---- what is made

-- bytes that are put under a name
pub record Put : Type 0 where
  pub name : List ℕ
  pub bytes : List ℕ

-- what is put, in order, what is written in the end, and how the call then ended
pub record Made : Type 0 where
  pub puts : List Put
  pub answer : List ℕ
  pub outcome : Outcome

-- as the program holds it
abbrev pub put_of : PutValue → Put
put_of put = record { name = put.name.now; bytes = put.bytes.items }

abbrev pub made_of : MadeValue → Made
made_of made = record {
  puts = map put_of made.puts.items;
  answer = made.answer.items;
  outcome = made.outcome;
}

abbrev pub names_of_puts : List Put → List (List ℕ)
names_of_puts puts = map (λ put. put.name) puts

-- `mesh`: the geometry and the rules that are held are accepted; the log and then the mesh of their run are
-- put, its summary line is written, and the outcome is that of its end
pub record IsMeshed (task : MeshTask) (files : Files) (made : Made) : Type 0 where
  pub input : MeshInput
  pub raw : RawGeometry
  pub geometry : HoldsGeometry files task.geometry raw input.geometry
  pub rules : HoldsRules files task.rules input.rules
  pub options : input.options ≡ task.options
  pub run : WholeRun
  pub is_run : IsRunOf input run
  pub exact : IsExactRun input run
  pub puts : made.puts
      ≡ record { name = task.log; bytes = log_of run }
      ∷ record { name = task.mesh; bytes = mesh_of input run } ∷ []
  pub answer : made.answer ≡ line_of input run
  pub outcome : made.outcome ≡ outcome_of run.end

-- `geom`: the geometry that is held is accepted, and its text is written
pub record IsDrawn (name : List ℕ) (files : Files) (made : Made) : Type 0 where
  pub raw : RawGeometry
  pub geometry : PlanarMap
  pub held : HoldsGeometry files name raw geometry
  pub puts : made.puts ≡ []
  pub answer : made.answer ≡ shown_text raw geometry
  pub outcome : made.outcome ≡ Shown

-- `rules`: the rules that are held are accepted, and which of them are live and their text are written
pub record AreListed (name : List ℕ) (files : Files) (made : Made) : Type 0 where
  pub rules : List Rule
  pub held : HoldsRules files name rules
  pub puts : made.puts ≡ []
  pub answer : IsListing rules made.answer
  pub outcome : made.outcome ≡ Shown

-- `check`: the geometry and the mesh that are held are accepted, this is the verdict on them, and its line is
-- written; the outcome is Good exactly where the mesh is whole
pub record IsChecked (geometry mesh : List ℕ) (files : Files) (made : Made) : Type 0 where
  pub raw : RawGeometry
  pub grid : PlanarMap
  pub held : HoldsGeometry files geometry raw grid
  pub read : Mesh
  pub mesh_held : HoldsVol files mesh grid.shift read
  pub verdict : Verdict
  pub is_verdict : IsVerdict grid read verdict
  pub puts : made.puts ≡ []
  pub answer : made.answer ≡ verdict_line (length read.elements) verdict
  pub outcome : made.outcome ≡ judged verdict

-- `view`: the log that is held is accepted, and its state after this step of this domain's run is written
pub record IsViewed (name : List ℕ) (domain step : ℕ) (files : Files) (made : Made) : Type 0 where
  pub view : View
  pub held : HoldsState files name domain step view
  pub puts : made.puts ≡ []
  pub answer : made.answer ≡ view_text domain step view
  pub outcome : made.outcome ≡ Shown

-- `gen`: the line of the whole run of so many squares with so many parts to a side, by the twelve rules, is
-- written, and the outcome is that of its end
pub record IsGenerated (squares parts : ℕ) (made : Made) : Type 0 where
  pub end : End
  pub puts : made.puts ≡ []
  pub answer : IsSampled squares parts made.answer end
  pub outcome : made.outcome ≡ outcome_of end

-- what a verb makes of the files that are held
abbrev pub Makes : Job → Files → Made → Type 0
Makes (MeshJob task) files made = IsMeshed task files made
Makes (GeomJob geometry) files made = IsDrawn geometry files made
Makes (RulesJob rules) files made = AreListed rules files made
Makes (CheckJob geometry mesh) files made = IsChecked geometry mesh files made
Makes (ViewJob log domain step) files made = IsViewed log domain step files made
Makes (GenJob squares parts) files made = IsGenerated squares parts made
