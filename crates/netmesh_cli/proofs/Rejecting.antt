-- Why the bytes of a file may be refused, from why its reader refuses them: one section for each kind of file.
use Rattle.std.proofs.Common.{ℕ, List}
use Rattle.std.specs.Prelude.{Option, ℤ}
use Rattle.folder_io.specs.Causes.{Told}
use Rattle.folder_io.specs.Names.{Files}
use Rattle.in2d_reader.specs.declared.geometry.RawGeometry.{RawGeometry}
use Rattle.geom_check.specs.Geometry.{PlanarMap}
use Rattle.netmesh_cli.specs.declared.outcome.Refusal.{Refusal}
use Rattle.netmesh_cli.specs.declared.outcome.Refusal.TheVariants.{Words, In2d, Geometry, Rules, Vol, Log, Folder, Out, Memory, NotYet}
use Rattle.netmesh_cli.specs.Held.{HoldsGeometry}
use Rattle.netmesh_cli.specs.Kinds.{Kind, AGeometry, ARuleFile, AMesh, AStateLog, Rejects, CanReject, GeometryRejects, RulesRejects, VolRejects, MeshRejects, StateRejects, IsOfGeometry, IsOfRules, IsOfMesh, IsOfLog}
use Rattle.netmesh_cli.specs.BytesRefused.{MayRefuse}
use Rattle.netmesh_cli.proofs.Tolds.{told_all, told_weaker}

-- there is such a refusal of a file of this kind, and it is that of the bytes, whatever is told of the files beside it
abbrev pub RejectedBeside : Option Files → Kind → List ℕ → Refusal → Type 0
RejectedBeside held kind bytes r = CanReject kind r × Told held (λ files. Rejects files kind bytes r)

-- the bytes of a file of this kind may be refused so, or memory was
pub record MayReject (held : Option Files) (kind : Kind) (bytes : List ℕ) (r : Refusal) : Type 0 where
  pub refused : MayRefuse (RejectedBeside held kind bytes) r

may_weaker : (P Q : Refusal → Type 0) (r : Refusal) → ((s : Refusal) → P s → Q s) → MayRefuse P r → MayRefuse Q r
may_weaker P Q (Words fault) all may = all (Words fault) may
may_weaker P Q (In2d fault) all may = all (In2d fault) may
may_weaker P Q (Geometry fault) all may = all (Geometry fault) may
may_weaker P Q (Rules fault) all may = all (Rules fault) may
may_weaker P Q (Vol fault) all may = all (Vol fault) may
may_weaker P Q (Log fault) all may = all (Log fault) may
may_weaker P Q (Folder name number) all may = all (Folder name number) may
may_weaker P Q Out all may = all Out may
may_weaker P Q Memory all may = tt
may_weaker P Q (NotYet part) all may = all (NotYet part) may

-- a reader that looks at the bytes alone
of_bytes : (held : Option Files) (kind : Kind) (bytes : List ℕ) (r : Refusal) (P : Refusal → Type 0) → ((s : Refusal) → P s → CanReject kind s) → ((files : Files) (s : Refusal) → P s → Rejects files kind bytes s) → MayRefuse P r → MayReject held kind bytes r
of_bytes held kind bytes r P can rejects may = record {
  refused = may_weaker P (RejectedBeside held kind bytes) r (λ s p. (can s p, told_all held (λ files. Rejects files kind bytes s) (λ files is. rejects files s p))) may;
}

-- ---- a geometry

geometry_can : (bytes : List ℕ) (r : Refusal) → GeometryRejects bytes r → IsOfGeometry r
geometry_can bytes (Words fault) rejects = rejects
geometry_can bytes (In2d fault) rejects = tt
geometry_can bytes (Geometry fault) rejects = tt
geometry_can bytes (Rules fault) rejects = rejects
geometry_can bytes (Vol fault) rejects = rejects
geometry_can bytes (Log fault) rejects = rejects
geometry_can bytes (Folder name number) rejects = rejects
geometry_can bytes Out rejects = rejects
geometry_can bytes Memory rejects = rejects
geometry_can bytes (NotYet part) rejects = rejects

pub geometry_may : (held : Option Files) (bytes : List ℕ) (r : Refusal) → MayRefuse (GeometryRejects bytes) r → MayReject held AGeometry bytes r
geometry_may held bytes r may = of_bytes held AGeometry bytes r (GeometryRejects bytes) (geometry_can bytes) (λ files s rejects. rejects) may

-- ---- a rule file

rules_can : (bytes : List ℕ) (r : Refusal) → RulesRejects bytes r → IsOfRules r
rules_can bytes (Words fault) rejects = rejects
rules_can bytes (In2d fault) rejects = rejects
rules_can bytes (Geometry fault) rejects = rejects
rules_can bytes (Rules fault) rejects = tt
rules_can bytes (Vol fault) rejects = rejects
rules_can bytes (Log fault) rejects = rejects
rules_can bytes (Folder name number) rejects = rejects
rules_can bytes Out rejects = rejects
rules_can bytes Memory rejects = rejects
rules_can bytes (NotYet part) rejects = rejects

pub rules_may : (held : Option Files) (bytes : List ℕ) (r : Refusal) → MayRefuse (RulesRejects bytes) r → MayReject held ARuleFile bytes r
rules_may held bytes r may = of_bytes held ARuleFile bytes r (RulesRejects bytes) (rules_can bytes) (λ files s rejects. rejects) may

-- ---- a log

log_can : (domain step : ℕ) (bytes : List ℕ) (r : Refusal) → StateRejects domain step bytes r → IsOfLog r
log_can domain step bytes (Words fault) rejects = rejects
log_can domain step bytes (In2d fault) rejects = rejects
log_can domain step bytes (Geometry fault) rejects = rejects
log_can domain step bytes (Rules fault) rejects = rejects
log_can domain step bytes (Vol fault) rejects = rejects
log_can domain step bytes (Log fault) rejects = tt
log_can domain step bytes (Folder name number) rejects = rejects
log_can domain step bytes Out rejects = rejects
log_can domain step bytes Memory rejects = rejects
log_can domain step bytes (NotYet part) rejects = rejects

pub state_may : (held : Option Files) (domain step : ℕ) (bytes : List ℕ) (r : Refusal) → MayRefuse (StateRejects domain step bytes) r → MayReject held (AStateLog domain step) bytes r
state_may held domain step bytes r may = of_bytes held (AStateLog domain step) bytes r (StateRejects domain step bytes) (log_can domain step bytes) (λ files s rejects. rejects) may

-- ---- a mesh, which is read at the shift of the geometry that is held

mesh_can : (shift : ℤ) (bytes : List ℕ) (r : Refusal) → VolRejects shift bytes r → IsOfMesh r
mesh_can shift bytes (Words fault) rejects = rejects
mesh_can shift bytes (In2d fault) rejects = rejects
mesh_can shift bytes (Geometry fault) rejects = rejects
mesh_can shift bytes (Rules fault) rejects = rejects
mesh_can shift bytes (Vol fault) rejects = tt
mesh_can shift bytes (Log fault) rejects = rejects
mesh_can shift bytes (Folder name number) rejects = rejects
mesh_can shift bytes Out rejects = rejects
mesh_can shift bytes Memory rejects = rejects
mesh_can shift bytes (NotYet part) rejects = rejects

pub mesh_may : (held : Option Files) (geometry bytes : List ℕ) (raw : RawGeometry) (g : PlanarMap) (r : Refusal) → Told held (λ files. HoldsGeometry files geometry raw g) → MayRefuse (VolRejects g.shift bytes) r → MayReject held (AMesh geometry) bytes r
mesh_may held geometry bytes raw g r holds may = record {
  refused = may_weaker (VolRejects g.shift bytes) (RejectedBeside held (AMesh geometry) bytes) r
      (λ s refused. (mesh_can g.shift bytes s refused, told_weaker held (λ files. HoldsGeometry files geometry raw g) (λ files. MeshRejects files geometry bytes s) (λ files h. record { raw = raw; grid = g; held = h; refused = refused }) holds))
      may;
}
