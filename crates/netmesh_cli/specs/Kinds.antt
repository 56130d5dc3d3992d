-- What a file is taken for: how long it may be, which bytes are accepted, and why others are refused.
--
-- Kind         what a file is taken for
-- limit_of     how many bytes it may have
-- Accepts      the bytes are accepted
-- Rejects      they aren't, and this is the refusal
-- CanReject    there is such a refusal of a file of this kind
use Rattle.std.specs.Prelude.{ℕ, List, ℤ}
use Rattle.folder_io.specs.Names.{Files}
use Rattle.in2d_reader.specs.declared.geometry.RawGeometry.{RawGeometry}
use Rattle.geom_check.specs.Geometry.{PlanarMap}
use Rattle.vol_format.specs.declared.Mesh.{Mesh as MeshValue}
use Rattle.netmesh_cli.specs.declared.outcome.Refusal.{Refusal}
use Rattle.netmesh_cli.specs.declared.outcome.Refusal.TheVariants.{In2d, Geometry, Rules, Vol, Log}
use Rattle.netmesh_cli.specs.Accepted.{HasGeometry, IsTextFault, IsGeometryFault, HasRules, IsRulesFault}
use Rattle.netmesh_cli.specs.Accepted.{IsMeshText, IsMeshFault, HasState, IsStateFault}
use Rattle.netmesh_cli.specs.Held.{HoldsGeometry}

-- what a file is taken for
pub data Kind : Type 0 where
  -- the text of an accepted geometry
  AGeometry : Kind
  -- a rule file
  ARuleFile : Kind
  -- a mesh at the shift of the geometry of this name
  AMesh : List ℕ → Kind
  -- a log with this domain and this step of it
  AStateLog : ℕ → ℕ → Kind

-- how many bytes it may have
abbrev pub limit_of : Kind → ℕ
limit_of AGeometry = 1048576
limit_of ARuleFile = 1048576
limit_of (AMesh geometry) = 268435456
limit_of (AStateLog domain step) = 268435456

-- the bytes are a mesh at the shift of the geometry that is held under the name
pub record HasMesh (files : Files) (geometry bytes : List ℕ) : Type 0 where
  pub raw : RawGeometry
  pub grid : PlanarMap
  pub held : HoldsGeometry files geometry raw grid
  pub mesh : MeshValue
  pub written : IsMeshText grid.shift bytes mesh

-- the bytes are accepted as a file of this kind, beside the files that are held
abbrev pub Accepts : Files → Kind → List ℕ → Type 0
Accepts files AGeometry bytes = HasGeometry bytes
Accepts files ARuleFile bytes = HasRules bytes
Accepts files (AMesh geometry) bytes = HasMesh files geometry bytes
Accepts files (AStateLog domain step) bytes = HasState domain step bytes

-- the bytes are the text of no geometry, or of one that isn't accepted
abbrev pub GeometryRejects : List ℕ → Refusal → Type 0
GeometryRejects bytes (In2d fault) = IsTextFault bytes fault
GeometryRejects bytes (Geometry fault) = IsGeometryFault bytes fault
GeometryRejects bytes _ = ⊥

-- the bytes are no rule file
abbrev pub RulesRejects : List ℕ → Refusal → Type 0
RulesRejects bytes (Rules fault) = IsRulesFault bytes fault
RulesRejects bytes _ = ⊥

-- the bytes are no mesh at this shift
abbrev pub VolRejects : ℤ → List ℕ → Refusal → Type 0
VolRejects shift bytes (Vol fault) = IsMeshFault shift bytes fault
VolRejects shift bytes _ = ⊥

-- the bytes are no mesh at the shift of the geometry that is held under the name
pub record MeshRejects (files : Files) (geometry bytes : List ℕ) (refusal : Refusal) : Type 0 where
  pub raw : RawGeometry
  pub grid : PlanarMap
  pub held : HoldsGeometry files geometry raw grid
  pub refused : VolRejects grid.shift bytes refusal

-- the bytes are no log, or one without the domain or the step
abbrev pub StateRejects : ℕ → ℕ → List ℕ → Refusal → Type 0
StateRejects domain step bytes (Log fault) = IsStateFault domain step bytes fault
StateRejects domain step bytes _ = ⊥

-- the bytes are refused so as a file of this kind
abbrev pub Rejects : Files → Kind → List ℕ → Refusal → Type 0
Rejects files AGeometry = GeometryRejects
Rejects files ARuleFile = RulesRejects
Rejects files (AMesh geometry) = MeshRejects files geometry
Rejects files (AStateLog domain step) = StateRejects domain step

-- a refusal of a geometry
abbrev pub IsOfGeometry : Refusal → Type 0
IsOfGeometry (In2d fault) = Unit {0}
IsOfGeometry (Geometry fault) = Unit {0}
IsOfGeometry _ = ⊥

-- a refusal of a rule file
abbrev pub IsOfRules : Refusal → Type 0
IsOfRules (Rules fault) = Unit {0}
IsOfRules _ = ⊥

-- a refusal of a mesh
abbrev pub IsOfMesh : Refusal → Type 0
IsOfMesh (Vol fault) = Unit {0}
IsOfMesh _ = ⊥

-- a refusal of a log
abbrev pub IsOfLog : Refusal → Type 0
IsOfLog (Log fault) = Unit {0}
IsOfLog _ = ⊥

-- a file of this kind may be refused so
abbrev pub CanReject : Kind → Refusal → Type 0
CanReject AGeometry = IsOfGeometry
CanReject ARuleFile = IsOfRules
CanReject (AMesh geometry) = IsOfMesh
CanReject (AStateLog domain step) = IsOfLog
