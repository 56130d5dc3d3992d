-- Bytes that are accepted as a file of a kind are not refused as one, and bytes have one refusal.
-- Each kind of file is one case: `split` its refusals, and say why no two of them come together.
use Rattle.std.proofs.Common.{◌≡◌, ◌⊎◌, inl, inr, ℕ, List, sym, subst, ap, refl, ◌∙◌}
use Rattle.std.specs.Prelude.{ℤ}
use Rattle.folder_io.specs.Names.{Files, Holds}
use Rattle.in2d_reader.specs.declared.geometry.RawGeometry.{RawGeometry}
use Rattle.in2d_reader.specs.declared.refusal.In2dRefusal.{In2dRefusal}
use Rattle.rule_reader.specs.declared.fault.RuleRefusal.{RuleRefusal}
use Rattle.geom_check.specs.declared.refusal.GeomRefusal.{GeomRefusal}
use Rattle.geom_check.specs.Refused.{IsRefusal}
use Rattle.geom_check.specs.Geometry.{PlanarMap}
use Rattle.vol_format.specs.declared.refusal.VolRefusal.{VolRefusal}
use Rattle.run_log.specs.declared.log.Log.{Log as LogValue}
use Rattle.run_log.specs.declared.refusal.LogRefusal.{LogRefusal}
use Rattle.run_log.specs.View.{Shows}
use Rattle.call_words.specs.declared.words_fault.WordsFault.{WordsFault}
use Rattle.netmesh_cli.specs.declared.outcome.Refusal.{Refusal}
use Rattle.netmesh_cli.specs.declared.outcome.Refusal.TheVariants.{Words, In2d, Geometry, Rules, Vol, Log, Folder, Out, Memory, NotYet}
use Rattle.netmesh_cli.specs.Accepted.{IsTextFault, IsGeometryText, IsGeometryFault, HasGeometry, HasRules, IsRulesFault, IsMeshText, IsMeshFault, HasState, IsStateFault}
use Rattle.netmesh_cli.specs.Held.{HoldsGeometry}
use Rattle.netmesh_cli.specs.Kinds.{Kind, AGeometry, ARuleFile, AMesh, AStateLog, Accepts, Rejects, CanReject, GeometryRejects, RulesRejects, HasMesh, VolRejects, MeshRejects, StateRejects}
use Rattle.netmesh_cli.proofs.Excluded.{excluded, fault_once, text_once, text_fault_once, geometry_once, rules_fault_once, mesh_fault_once, log_once, log_fault_once}

-- ---- a geometry

faulty_text : (bytes : List ℕ) (fault : In2dRefusal) → IsTextFault bytes fault → ¬ HasGeometry bytes
faulty_text bytes fault faulty has = faulty.none has.raw has.written.text

faulty_geometry : (bytes : List ℕ) (fault : GeomRefusal) → IsGeometryFault bytes fault → ¬ HasGeometry bytes
faulty_geometry bytes fault faulty has = excluded has.raw has.written.placed.accepted fault faulty.named
    (subst (λ (raw : RawGeometry). IsRefusal raw fault) (text_once bytes faulty.raw has.raw faulty.text has.written.text) faulty.refused)

geometry_unrejected : (bytes : List ℕ) (r : Refusal) → HasGeometry bytes → ¬ GeometryRejects bytes r
geometry_unrejected bytes (Words fault) has rejects = rejects
geometry_unrejected bytes (In2d fault) has rejects = faulty_text bytes fault rejects has
geometry_unrejected bytes (Geometry fault) has rejects = faulty_geometry bytes fault rejects has
geometry_unrejected bytes (Rules fault) has rejects = rejects
geometry_unrejected bytes (Vol fault) has rejects = rejects
geometry_unrejected bytes (Log fault) has rejects = rejects
geometry_unrejected bytes (Folder name number) has rejects = rejects
geometry_unrejected bytes Out has rejects = rejects
geometry_unrejected bytes Memory has rejects = rejects
geometry_unrejected bytes (NotYet part) has rejects = rejects

-- its refusals: of its text, or of the geometry
abbrev GeometrySplit : List ℕ → Refusal → Type 0
GeometrySplit bytes r =
    ((fault : In2dRefusal) × (r ≡ In2d fault) × IsTextFault bytes fault)
    ⊎ ((fault : GeomRefusal) × (r ≡ Geometry fault) × IsGeometryFault bytes fault)

geometry_split : (bytes : List ℕ) (r : Refusal) → GeometryRejects bytes r → GeometrySplit bytes r
geometry_split bytes (Words fault) rejects = absurd rejects
geometry_split bytes (In2d fault) rejects = inl (fault, refl, rejects)
geometry_split bytes (Geometry fault) rejects = inr (fault, refl, rejects)
geometry_split bytes (Rules fault) rejects = absurd rejects
geometry_split bytes (Vol fault) rejects = absurd rejects
geometry_split bytes (Log fault) rejects = absurd rejects
geometry_split bytes (Folder name number) rejects = absurd rejects
geometry_split bytes Out rejects = absurd rejects
geometry_split bytes Memory rejects = absurd rejects
geometry_split bytes (NotYet part) rejects = absurd rejects

one_of_geometry : (bytes : List ℕ) (r s : Refusal) → GeometrySplit bytes r → GeometrySplit bytes s → r ≡ s
one_of_geometry bytes r s (inl first) (inl second) = first.1 ∙ ap In2d (text_fault_once bytes first.0 second.0 first.2 second.2) ∙ sym second.1
one_of_geometry bytes r s (inl first) (inr second) = absurd (first.2.none second.2.raw second.2.text)
one_of_geometry bytes r s (inr first) (inl second) = absurd (second.2.none first.2.raw first.2.text)
one_of_geometry bytes r s (inr first) (inr second) =
    let refused = subst (λ (raw : RawGeometry). IsRefusal raw first.0) (text_once bytes first.2.raw second.2.raw first.2.text second.2.text) first.2.refused in
    first.1 ∙ ap Geometry (fault_once second.2.raw first.0 second.0 first.2.named second.2.named refused second.2.refused) ∙ sym second.1

-- ---- a rule file

rules_faulty : (bytes : List ℕ) (r : Refusal) → RulesRejects bytes r → (fault : RuleRefusal) × (r ≡ Rules fault) × IsRulesFault bytes fault
rules_faulty bytes (Words fault) rejects = absurd rejects
rules_faulty bytes (In2d fault) rejects = absurd rejects
rules_faulty bytes (Geometry fault) rejects = absurd rejects
rules_faulty bytes (Rules fault) rejects = (fault, refl, rejects)
rules_faulty bytes (Vol fault) rejects = absurd rejects
rules_faulty bytes (Log fault) rejects = absurd rejects
rules_faulty bytes (Folder name number) rejects = absurd rejects
rules_faulty bytes Out rejects = absurd rejects
rules_faulty bytes Memory rejects = absurd rejects
rules_faulty bytes (NotYet part) rejects = absurd rejects

rules_unrejected : (bytes : List ℕ) (r : Refusal) → HasRules bytes → ¬ RulesRejects bytes r
rules_unrejected bytes r has rejects = let f = rules_faulty bytes r rejects in f.2.none has.rules has.are

one_of_rules : (bytes : List ℕ) (r s : Refusal) → RulesRejects bytes r → RulesRejects bytes s → r ≡ s
one_of_rules bytes r s first second =
    let f = rules_faulty bytes r first in
    let g = rules_faulty bytes s second in
    f.1 ∙ ap Rules (rules_fault_once bytes f.0 g.0 f.2 g.2) ∙ sym g.1

-- ---- a mesh

mesh_faulty : (shift : ℤ) (bytes : List ℕ) (r : Refusal) → VolRejects shift bytes r → (fault : VolRefusal) × (r ≡ Vol fault) × IsMeshFault shift bytes fault
mesh_faulty shift bytes (Words fault) rejects = absurd rejects
mesh_faulty shift bytes (In2d fault) rejects = absurd rejects
mesh_faulty shift bytes (Geometry fault) rejects = absurd rejects
mesh_faulty shift bytes (Rules fault) rejects = absurd rejects
mesh_faulty shift bytes (Vol fault) rejects = (fault, refl, rejects)
mesh_faulty shift bytes (Log fault) rejects = absurd rejects
mesh_faulty shift bytes (Folder name number) rejects = absurd rejects
mesh_faulty shift bytes Out rejects = absurd rejects
mesh_faulty shift bytes Memory rejects = absurd rejects
mesh_faulty shift bytes (NotYet part) rejects = absurd rejects

-- under one name one file is held
pub held_once : (files : Files) (name first second : List ℕ) → Holds files name first → Holds files name second → first ≡ second
held_once files name first second one other = let e = sym one ∙ other in cc

-- and one geometry
grid_once : (files : Files) (name : List ℕ) (raw other : RawGeometry) (g h : PlanarMap) → HoldsGeometry files name raw g → HoldsGeometry files name other h → g ≡ h
grid_once files name raw other g h one two =
    let same = held_once files name two.bytes one.bytes two.holds.held one.holds.held in
    (geometry_once one.bytes raw other g h one.written (subst (λ (b : List ℕ). IsGeometryText b other h) same two.written)).1

mesh_unrejected : (files : Files) (geometry bytes : List ℕ) (r : Refusal) → HasMesh files geometry bytes → ¬ MeshRejects files geometry bytes r
mesh_unrejected files geometry bytes r has rejects =
    let f = mesh_faulty rejects.grid.shift bytes r rejects.refused in
    let same = grid_once files geometry has.raw rejects.raw has.grid rejects.grid has.held rejects.held in
    f.2.none has.mesh (subst (λ (g : PlanarMap). IsMeshText g.shift bytes has.mesh) same has.written)

one_of_mesh : (files : Files) (geometry bytes : List ℕ) (r s : Refusal) → MeshRejects files geometry bytes r → MeshRejects files geometry bytes s → r ≡ s
one_of_mesh files geometry bytes r s first second =
    let same = grid_once files geometry first.raw second.raw first.grid second.grid first.held second.held in
    let f = mesh_faulty second.grid.shift bytes r (subst (λ (g : PlanarMap). VolRejects g.shift bytes r) same first.refused) in
    let g = mesh_faulty second.grid.shift bytes s second.refused in
    f.1 ∙ ap Vol (mesh_fault_once second.grid.shift bytes f.0 g.0 f.2 g.2) ∙ sym g.1

-- ---- a log with a state

state_faulty : (domain step : ℕ) (bytes : List ℕ) (r : Refusal) → StateRejects domain step bytes r → (fault : LogRefusal) × (r ≡ Log fault) × IsStateFault domain step bytes fault
state_faulty domain step bytes (Words fault) rejects = absurd rejects
state_faulty domain step bytes (In2d fault) rejects = absurd rejects
state_faulty domain step bytes (Geometry fault) rejects = absurd rejects
state_faulty domain step bytes (Rules fault) rejects = absurd rejects
state_faulty domain step bytes (Vol fault) rejects = absurd rejects
state_faulty domain step bytes (Log fault) rejects = (fault, refl, rejects)
state_faulty domain step bytes (Folder name number) rejects = absurd rejects
state_faulty domain step bytes Out rejects = absurd rejects
state_faulty domain step bytes Memory rejects = absurd rejects
state_faulty domain step bytes (NotYet part) rejects = absurd rejects

state_there : (domain step : ℕ) (bytes : List ℕ) (fault : LogRefusal) → HasState domain step bytes → ¬ IsStateFault domain step bytes fault
state_there domain step bytes fault has (inl faulty) = faulty.none has.is.log has.is.written
state_there domain step bytes fault has (inr lacks) = lacks.1.none has.view
    (subst (λ (log : LogValue). Shows log domain step has.view) (log_once bytes has.is.log lacks.1.log has.is.written lacks.1.written) has.is.shown)

state_unrejected : (domain step : ℕ) (bytes : List ℕ) (r : Refusal) → HasState domain step bytes → ¬ StateRejects domain step bytes r
state_unrejected domain step bytes r has rejects = let f = state_faulty domain step bytes r rejects in state_there domain step bytes f.0 has f.2

state_fault_once : (domain step : ℕ) (bytes : List ℕ) (f g : LogRefusal) → IsStateFault domain step bytes f → IsStateFault domain step bytes g → f ≡ g
state_fault_once domain step bytes f g (inl first) (inl second) = log_fault_once bytes f g first second
state_fault_once domain step bytes f g (inl first) (inr second) = absurd (first.none second.1.log second.1.written)
state_fault_once domain step bytes f g (inr first) (inl second) = absurd (second.none first.1.log first.1.written)
state_fault_once domain step bytes f g (inr first) (inr second) = first.0 ∙ sym second.0

one_of_state : (domain step : ℕ) (bytes : List ℕ) (r s : Refusal) → StateRejects domain step bytes r → StateRejects domain step bytes s → r ≡ s
one_of_state domain step bytes r s first second =
    let f = state_faulty domain step bytes r first in
    let g = state_faulty domain step bytes s second in
    f.1 ∙ ap Log (state_fault_once domain step bytes f.0 g.0 f.2 g.2) ∙ sym g.1

-- ---- any kind

pub accepted_unrejected : (files : Files) (kind : Kind) (bytes : List ℕ) (r : Refusal) → Accepts files kind bytes → ¬ Rejects files kind bytes r
accepted_unrejected files AGeometry bytes r accepted rejects = geometry_unrejected bytes r accepted rejects
accepted_unrejected files ARuleFile bytes r accepted rejects = rules_unrejected bytes r accepted rejects
accepted_unrejected files (AMesh geometry) bytes r accepted rejects = mesh_unrejected files geometry bytes r accepted rejects
accepted_unrejected files (AStateLog domain step) bytes r accepted rejects = state_unrejected domain step bytes r accepted rejects

pub one_rejection : (files : Files) (kind : Kind) (bytes : List ℕ) (r s : Refusal) → Rejects files kind bytes r → Rejects files kind bytes s → r ≡ s
one_rejection files AGeometry bytes r s first second = one_of_geometry bytes r s (geometry_split bytes r first) (geometry_split bytes s second)
one_rejection files ARuleFile bytes r s first second = one_of_rules bytes r s first second
one_rejection files (AMesh geometry) bytes r s first second = one_of_mesh files geometry bytes r s first second
one_rejection files (AStateLog domain step) bytes r s first second = one_of_state domain step bytes r s first second

-- no file is refused as words are, or as an answer is, or by the folder, for its bytes
pub no_words_there : (kind : Kind) (fault : WordsFault) → ¬ CanReject kind (Words fault)
no_words_there AGeometry fault can = can
no_words_there ARuleFile fault can = can
no_words_there (AMesh geometry) fault can = can
no_words_there (AStateLog domain step) fault can = can

pub no_out_there : (kind : Kind) → ¬ CanReject kind Out
no_out_there AGeometry can = can
no_out_there ARuleFile can = can
no_out_there (AMesh geometry) can = can
no_out_there (AStateLog domain step) can = can

pub no_folder_there : (kind : Kind) (name : List ℕ) (number : ℕ) → ¬ CanReject kind (Folder name number)
no_folder_there AGeometry name number can = can
no_folder_there ARuleFile name number can = can
no_folder_there (AMesh geometry) name number can = can
no_folder_there (AStateLog domain step) name number can = can

-- the first part that isn't built is one of words
pub no_first_there : (kind : Kind) → ¬ CanReject kind (NotYet 1)
no_first_there AGeometry can = can
no_first_there ARuleFile can = can
no_first_there (AMesh geometry) can = can
no_first_there (AStateLog domain step) can = can
