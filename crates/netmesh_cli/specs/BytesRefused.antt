-- Why bytes are refused, at each step of reading them.
use Rattle.std.specs.Prelude.{◌≡◌, ◌≢◌, ℕ, List}
use Rattle.in2d_reader.specs.declared.geometry.RawGeometry.{RawGeometry}
use Rattle.geom_check.specs.declared.refusal.GeomRefusal.TheVariants.{Memory as NoMemoryToCheck}
use Rattle.geom_check.specs.Refused.{IsRefusal}
use Rattle.run_log.specs.declared.log.Log.{Log as LogValue}
use Rattle.run_log.specs.declared.state.View.{View}
use Rattle.run_log.specs.declared.refusal.LogRefusal.TheVariants.{NoState}
use Rattle.run_log.specs.View.{Shows, HasNoState}
use Rattle.netmesh_cli.specs.declared.outcome.Refusal.{Refusal}
use Rattle.netmesh_cli.specs.declared.outcome.Refusal.TheVariants.{In2d, Geometry, Log, Memory}
use Rattle.netmesh_cli.specs.Accepted.{IsTextFault, IsLogFault}

-- they are refused so, or memory was refused
abbrev pub MayRefuse : (Refusal → Type 0) → Refusal → Type 0
MayRefuse P Memory = Unit {0}
MayRefuse P refusal = P refusal

-- the bytes are the text of no geometry
abbrev pub ReadRefused : List ℕ → Refusal → Type 0
ReadRefused bytes (In2d fault) = IsTextFault bytes fault
ReadRefused bytes Memory = Unit {0}
ReadRefused bytes _ = ⊥

-- the geometry is not accepted
abbrev pub CheckRefused : RawGeometry → Refusal → Type 0
CheckRefused raw (Geometry fault) = (fault ≢ NoMemoryToCheck) × IsRefusal raw fault
CheckRefused raw Memory = Unit {0}
CheckRefused raw _ = ⊥

-- the bytes are the text of no log
abbrev pub LogRefused : List ℕ → Refusal → Type 0
LogRefused bytes (Log fault) = IsLogFault bytes fault
LogRefused bytes Memory = Unit {0}
LogRefused bytes _ = ⊥

-- the log lacks the domain, or the step
abbrev pub ViewRefused : LogValue → ℕ → ℕ → Refusal → Type 0
ViewRefused log domain step (Log fault) = (fault ≡ NoState domain step)
    × HasNoState log domain step × ((view : View) → ¬ Shows log domain step view)
ViewRefused log domain step Memory = Unit {0}
ViewRefused log domain step _ = ⊥
