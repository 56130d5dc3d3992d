-- Which bytes are the text of an accepted geometry, which are a rule file, a mesh, or a log.
--
-- IsText            the bytes are the text of a geometry
-- IsGeometryText    it is accepted, and this is it on the grid
-- IsTextFault       why they are the text of none
-- IsGeometryFault   why the geometry that they are the text of is not accepted
-- HasGeometry       they are the text of an accepted geometry
-- AreRules          the bytes are a rule file with these rules
-- IsRulesFault      why they are no rule file
-- IsMeshText        the bytes are the text of a mesh at a shift
-- IsMeshFault       why they are the text of none
-- IsLogText         the bytes are the text of a log
-- IsLogFault        why they are the text of none
-- IsState           this is the state after a step of a domain's run
-- HasState          there is such a state
-- IsStateFault      why there is none
use Rattle.std.specs.Prelude.{◌≡◌, ◌≢◌, ◌⊎◌, ℕ, List, ℤ}
use Rattle.word_scan.specs.Scan.{words_of}
use Rattle.in2d_reader.specs.declared.geometry.RawGeometry.{RawGeometry}
use Rattle.in2d_reader.specs.declared.refusal.In2dRefusal.{In2dRefusal}
use Rattle.in2d_reader.specs.declared.refusal.In2dRefusal.TheVariants.{Memory as NoMemoryToRead}
use Rattle.in2d_reader.specs.Grammar.{Derives, Fits}
use Rattle.in2d_reader.specs.Refusals.{Refuses}
use Rattle.rule_reader.specs.declared.fault.RuleRefusal.{RuleRefusal}
use Rattle.rule_reader.specs.declared.fault.RuleRefusal.TheVariants.{Memory as NoMemoryForRules}
use Rattle.rule_reader.specs.declared.rule.Rule.{Rule}
use Rattle.rule_reader.specs.Words.{words_of as rule_words_of}
use Rattle.rule_reader.specs.Grammar.{Admits}
use Rattle.rule_reader.specs.Refusals.{Refuses as RefusesRuleWords}
use Rattle.geom_check.specs.declared.refusal.GeomRefusal.{GeomRefusal}
use Rattle.geom_check.specs.declared.refusal.GeomRefusal.TheVariants.{Memory as NoMemoryToCheck}
use Rattle.geom_check.specs.Refused.{IsRefusal}
use Rattle.geom_check.specs.Geometry.{PlanarMap, IsGeometryOf}
use Rattle.vol_format.specs.declared.Mesh.{Mesh}
use Rattle.vol_format.specs.declared.refusal.VolRefusal.{VolRefusal}
use Rattle.vol_format.specs.declared.refusal.VolRefusal.TheVariants.{Memory as NoMemoryForMesh}
use Rattle.vol_format.specs.Text.{Derives as DerivesMesh, Known}
use Rattle.vol_format.specs.Refusals.{Refuses as RefusesMesh}
use Rattle.run_log.specs.declared.log.Log.{Log}
use Rattle.run_log.specs.declared.state.View.{View}
use Rattle.run_log.specs.declared.refusal.LogRefusal.{LogRefusal}
use Rattle.run_log.specs.declared.refusal.LogRefusal.TheVariants.{NoState}
use Rattle.run_log.specs.Grammar.{Reads, Refuses as RefusesLog}
use Rattle.run_log.specs.View.{Shows, HasNoState}

-- ---- texts of geometries

-- the bytes are the text of this geometry: the grammar derives it, and it is within the limits
pub record IsText (bytes : List ℕ) (raw : RawGeometry) : Type 0 where
  pub derived : Derives (words_of bytes) raw
  pub fits : Fits raw

-- the bytes are the text of this geometry, and this is it on the grid, accepted
pub record IsGeometryText (bytes : List ℕ) (raw : RawGeometry) (g : PlanarMap) : Type 0 where
  pub text : IsText bytes raw
  pub placed : IsGeometryOf raw g

-- the bytes are the text of no geometry, and this is the fault
pub record IsTextFault (bytes : List ℕ) (fault : In2dRefusal) : Type 0 where
  pub named : fault ≢ NoMemoryToRead
  pub refused : Refuses (words_of bytes) fault
  pub none : (raw : RawGeometry) → ¬ IsText bytes raw

-- the bytes are the text of a geometry, and this is its fault
pub record IsGeometryFault (bytes : List ℕ) (fault : GeomRefusal) : Type 0 where
  pub raw : RawGeometry
  pub text : IsText bytes raw
  pub named : fault ≢ NoMemoryToCheck
  pub refused : IsRefusal raw fault

-- the bytes are the text of an accepted geometry
pub record HasGeometry (bytes : List ℕ) : Type 0 where
  pub raw : RawGeometry
  pub geometry : PlanarMap
  pub written : IsGeometryText bytes raw geometry

-- ---- rule files

-- the bytes are a rule file with these rules
abbrev pub AreRules : List ℕ → List Rule → Type 0
AreRules bytes rules = Admits (rule_words_of bytes) rules

-- the bytes are a rule file
pub record HasRules (bytes : List ℕ) : Type 0 where
  pub rules : List Rule
  pub are : AreRules bytes rules

-- the bytes are no rule file, and this is the fault
pub record IsRulesFault (bytes : List ℕ) (fault : RuleRefusal) : Type 0 where
  pub named : fault ≢ NoMemoryForRules
  pub refused : RefusesRuleWords (rule_words_of bytes) fault
  pub none : (rules : List Rule) → ¬ AreRules bytes rules

-- ---- meshes

-- the bytes are the text of this mesh at the shift: the grammar derives it, and its point numbers name its points
pub record IsMeshText (shift : ℤ) (bytes : List ℕ) (mesh : Mesh) : Type 0 where
  pub derived : DerivesMesh shift (words_of bytes) mesh
  pub known : Known mesh

-- the bytes are the text of no mesh at the shift, and this is the fault
pub record IsMeshFault (shift : ℤ) (bytes : List ℕ) (fault : VolRefusal) : Type 0 where
  pub named : fault ≢ NoMemoryForMesh
  pub refused : RefusesMesh shift (words_of bytes) fault
  pub none : (mesh : Mesh) → ¬ IsMeshText shift bytes mesh

-- ---- logs

-- the bytes are the text of this log
abbrev pub IsLogText : List ℕ → Log → Type 0
IsLogText bytes log = Reads (words_of bytes) log

-- the bytes are the text of no log, and this is the fault
pub record IsLogFault (bytes : List ℕ) (fault : LogRefusal) : Type 0 where
  pub refused : RefusesLog (words_of bytes) fault
  pub none : (log : Log) → ¬ IsLogText bytes log

-- the bytes are the text of a log, and this is the state after this step of this domain's run
pub record IsState (domain step : ℕ) (bytes : List ℕ) (view : View) : Type 0 where
  pub log : Log
  pub written : IsLogText bytes log
  pub shown : Shows log domain step view

-- they are the text of a log with such a state
pub record HasState (domain step : ℕ) (bytes : List ℕ) : Type 0 where
  pub view : View
  pub is : IsState domain step bytes view

-- the bytes are the text of a log without this domain, or without this step of its run
pub record LacksState (domain step : ℕ) (bytes : List ℕ) : Type 0 where
  pub log : Log
  pub written : IsLogText bytes log
  pub lacks : HasNoState log domain step
  pub none : (view : View) → ¬ Shows log domain step view

-- the bytes are the text of no log, or of one that lacks the state; and this is the fault
abbrev pub IsStateFault : ℕ → ℕ → List ℕ → LogRefusal → Type 0
IsStateFault domain step bytes fault = IsLogFault bytes fault
    ⊎ ((fault ≡ NoState domain step) × LacksState domain step bytes)
