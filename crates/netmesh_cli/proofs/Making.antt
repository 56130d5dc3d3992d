-- What the verbs make of the files that they take, and why they make nothing: one section for a verb.
use Rattle.std.proofs.Common.{◌≡◌, inl, inr, ℕ, ◌≤◌, List, [], ◌∷◌, length, subst, ◌∙◌}
use Rattle.std.specs.Prelude.{Option, ℤ}
use Rattle.folder_io.specs.Causes.{Told}
use Rattle.folder_io.specs.Names.{Files}
use Rattle.folder_io.specs.States.{FolderState}
use Rattle.in2d_reader.specs.declared.geometry.RawGeometry.{RawGeometry}
use Rattle.geom_check.specs.Geometry.{PlanarMap}
use Rattle.mesh_run.specs.declared.WholeRun.{WholeRun}
use Rattle.vol_format.specs.declared.Mesh.{Mesh}
use Rattle.mesh_check.specs.declared.verdict.Verdict.{Verdict}
use Rattle.mesh_check.specs.Verdict.{IsVerdict}
use Rattle.netmesh_cli.specs.declared.outcome.Refusal.{Refusal}
use Rattle.netmesh_cli.specs.declared.outcome.Refusal.TheVariants.{Words, In2d, Geometry, Rules, Vol, Log, Folder, Out, Memory, NotYet}
use Rattle.call_words.specs.Commands.{MeshTask}
use Rattle.netmesh_cli.specs.Accepted.{IsMeshText}
use Rattle.netmesh_cli.specs.Causes.{IsMemory, HoldsWithin}
use Rattle.netmesh_cli.specs.Taking.{HoldsAccepted, TakeRefused, geometry_at, rule_file_at, mesh_at, state_log_at}
use Rattle.netmesh_cli.specs.Run.{MeshInput, IsRunOf, log_of, mesh_of, line_of, outcome_of, IsExactRun}
use Rattle.netmesh_cli.specs.Held.{HoldsGeometry, HoldsRules, HoldsVol}
use Rattle.netmesh_cli.specs.Judged.{verdict_line, judged}
use Rattle.netmesh_cli.specs.Jobs.{Job, MeshJob, GeomJob, RulesJob, CheckJob, ViewJob, Made, IsMeshed, IsChecked}
use Rattle.netmesh_cli.specs.Served.{MakeRefused}
use Rattle.netmesh_cli.proofs.Tolds.{told_weaker, told_both}
use Rattle.netmesh_cli.proofs.Firsts.{take_since}
use Rattle.netmesh_cli.proofs.Courses.{make_refused}

-- memory is refused for what is made
pub memory_makes : (job : Job) (s0 s1 : FolderState) (r : Refusal) → IsMemory r → MakeRefused job s0 s1 r
memory_makes job s0 s1 (Words fault) memory = absurd memory
memory_makes job s0 s1 (In2d fault) memory = absurd memory
memory_makes job s0 s1 (Geometry fault) memory = absurd memory
memory_makes job s0 s1 (Rules fault) memory = absurd memory
memory_makes job s0 s1 (Vol fault) memory = absurd memory
memory_makes job s0 s1 (Log fault) memory = absurd memory
memory_makes job s0 s1 (Folder name number) memory = absurd memory
memory_makes job s0 s1 Out memory = absurd memory
memory_makes job s0 s1 Memory memory = tt
memory_makes job s0 s1 (NotYet part) memory = absurd memory

-- ---- geom

pub geom_refused : (name : List ℕ) (s0 s1 : FolderState) (r : Refusal) → TakeRefused s0 s1 r (geometry_at name) → MakeRefused (GeomJob name) s0 s1 r
geom_refused name s0 s1 r refused = make_refused (GeomJob name) s0 s1 r (inl refused)

-- ---- rules

pub rules_refused : (name : List ℕ) (s0 s1 : FolderState) (r : Refusal) → TakeRefused s0 s1 r (rule_file_at name) → MakeRefused (RulesJob name) s0 s1 r
rules_refused name s0 s1 r refused = make_refused (RulesJob name) s0 s1 r (inl refused)

-- ---- view

pub view_refused : (log : List ℕ) (domain step : ℕ) (s0 s1 : FolderState) (r : Refusal) → TakeRefused s0 s1 r (state_log_at domain step log) → MakeRefused (ViewJob log domain step) s0 s1 r
view_refused log domain step s0 s1 r refused = make_refused (ViewJob log domain step) s0 s1 r (inl refused)

-- ---- a geometry, and another file behind it

geometry_accepted : (held : Option Files) (name : List ℕ) (raw : RawGeometry) (g : PlanarMap) → Told held (λ files. HoldsGeometry files name raw g) → Told held (λ files. HoldsAccepted files (geometry_at name))
geometry_accepted held name raw g told = told_weaker held _ _ (λ files h. record { bytes = h.bytes; holds = h.holds; accepted = record { raw = raw; geometry = g; written = h.written } }) told

-- ---- check

pub check_at_geometry : (geometry mesh : List ℕ) (s0 s1 : FolderState) (r : Refusal) → TakeRefused s0 s1 r (geometry_at geometry) → MakeRefused (CheckJob geometry mesh) s0 s1 r
check_at_geometry geometry mesh s0 s1 r refused = make_refused (CheckJob geometry mesh) s0 s1 r (inl refused)

pub check_at_mesh : (geometry mesh : List ℕ) (s0 s1 s2 : FolderState) (raw : RawGeometry) (g : PlanarMap) (r : Refusal) → s1.held ≡ s0.held → s0.faults ≤ s1.faults → Told s0.held (λ files. HoldsGeometry files geometry raw g) → TakeRefused s1 s2 r (mesh_at geometry mesh) → MakeRefused (CheckJob geometry mesh) s0 s2 r
check_at_mesh geometry mesh s0 s1 s2 raw g r same kept holds refused = make_refused (CheckJob geometry mesh) s0 s2 r (inr (geometry_accepted s0.held geometry raw g holds, inl (take_since s0 s1 s2 r (mesh_at geometry mesh) same kept refused)))

-- the geometry and the mesh that are held, the verdict on them, and what is made of it
pub record IsMadeOfVerdict (held : Option Files) (geometry mesh : List ℕ) (raw : RawGeometry) (g : PlanarMap) (m : Mesh) (verdict : Verdict) (made : Made) : Type 0 where
  pub geometry_held : Told held (λ files. HoldsGeometry files geometry raw g)
  pub mesh_held : Told held (λ files. HoldsVol files mesh g.shift m)
  pub is_verdict : IsVerdict g m verdict
  pub puts : made.puts ≡ []
  pub answer : made.answer ≡ verdict_line (length m.elements) verdict
  pub outcome : made.outcome ≡ judged verdict

pub check_made : (held : Option Files) (geometry mesh : List ℕ) (raw : RawGeometry) (g : PlanarMap) (m : Mesh) (verdict : Verdict) (made : Made) → IsMadeOfVerdict held geometry mesh raw g m verdict made → Told held (λ files. IsChecked geometry mesh files made)
check_made held geometry mesh raw g m verdict made of = told_both held _ _ (λ files. IsChecked geometry mesh files made)
    (λ files h k. record { raw = raw; grid = g; held = h; read = m; mesh_held = k; verdict = verdict; is_verdict = of.is_verdict; puts = of.puts; answer = of.answer; outcome = of.outcome })
    of.geometry_held of.mesh_held

-- the bytes of a mesh that were taken are those that were read
pub vol_held : (held : Option Files) (mesh taken bytes : List ℕ) (shift : ℤ) (m : Mesh) → bytes ≡ taken → Told held (λ files. HoldsWithin 268435456 files mesh taken) → IsMeshText shift bytes m → Told held (λ files. HoldsVol files mesh shift m)
vol_held held mesh taken bytes shift m same told text = told_weaker held _ _ (λ files h. record { bytes = taken; holds = h; written = subst (λ (b : List ℕ). IsMeshText shift b m) same text }) told

-- ---- mesh

pub mesh_at_geometry : (task : MeshTask) (s0 s1 : FolderState) (r : Refusal) → TakeRefused s0 s1 r (geometry_at task.geometry) → MakeRefused (MeshJob task) s0 s1 r
mesh_at_geometry task s0 s1 r refused = make_refused (MeshJob task) s0 s1 r (inl refused)

pub mesh_at_rules : (task : MeshTask) (s0 s1 s2 : FolderState) (raw : RawGeometry) (g : PlanarMap) (r : Refusal) → s1.held ≡ s0.held → s0.faults ≤ s1.faults → Told s0.held (λ files. HoldsGeometry files task.geometry raw g) → TakeRefused s1 s2 r (rule_file_at task.rules) → MakeRefused (MeshJob task) s0 s2 r
mesh_at_rules task s0 s1 s2 raw g r same kept holds refused = make_refused (MeshJob task) s0 s2 r (inr (geometry_accepted s0.held task.geometry raw g holds, inl (take_since s0 s1 s2 r (rule_file_at task.rules) same kept refused)))

-- what is made of a run: its log and its mesh are put, its line is written, and the outcome is that of its end
pub record IsMadeOf (task : MeshTask) (input : MeshInput) (run : WholeRun) (made : Made) : Type 0 where
  pub puts : made.puts
      ≡ record { name = task.log; bytes = log_of run } ∷ record { name = task.mesh; bytes = mesh_of input run } ∷ []
  pub answer : made.answer ≡ line_of input run
  pub outcome : made.outcome ≡ outcome_of run.end

-- the texts of a run that are made
pub record AreTexts (input : MeshInput) (run : WholeRun) (log mesh line : List ℕ) : Type 0 where
  pub log_is : log ≡ log_of run
  pub mesh_is : mesh ≡ mesh_of input run
  pub line_is : line ≡ line_of input run

pub made_of_run : (task : MeshTask) (input : MeshInput) (run : WholeRun) (made : Made) (log mesh line : List ℕ) → AreTexts input run log mesh line → made.puts ≡ record { name = task.log; bytes = log } ∷ record { name = task.mesh; bytes = mesh } ∷ [] → made.answer ≡ line → made.outcome ≡ outcome_of run.end → IsMadeOf task input run made
made_of_run task input run made log mesh line texts puts answer outcome = record {
  puts = puts ∙ (λ i. record { name = task.log; bytes = texts.log_is i } ∷ record { name = task.mesh; bytes = texts.mesh_is i } ∷ []);
  answer = answer ∙ texts.line_is;
  outcome = outcome;
}

-- the geometry and the rules that are held are those of the input
pub record AreHeld (held : Option Files) (task : MeshTask) (raw : RawGeometry) (input : MeshInput) : Type 0 where
  pub geometry : Told held (λ files. HoldsGeometry files task.geometry raw input.geometry)
  pub rules : Told held (λ files. HoldsRules files task.rules input.rules)
  pub options : input.options ≡ task.options

pub mesh_made : (task : MeshTask) (held : Option Files) (raw : RawGeometry) (input : MeshInput) (run : WholeRun) (made : Made) → AreHeld held task raw input → IsRunOf input run → IsExactRun input run → IsMadeOf task input run made → Told held (λ files. IsMeshed task files made)
mesh_made task held raw input run made are is_run exact of_run = told_both held _ _ (λ files. IsMeshed task files made)
    (λ files g r. record {
      input = input;
      raw = raw;
      geometry = g;
      rules = r;
      options = are.options;
      run = run;
      is_run = is_run;
      exact = exact;
      puts = of_run.puts;
      answer = of_run.answer;
      outcome = of_run.outcome;
    })
    are.geometry are.rules
