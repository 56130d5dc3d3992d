-- What is held under a name, where it is accepted.
--
-- HoldsGeometry   the text of an accepted geometry
-- HoldsRules      a rule file
-- HoldsVol        a mesh
-- HoldsState      a log with a state
use Rattle.std.specs.Prelude.{ℕ, List, ℤ}
use Rattle.folder_io.specs.Names.{Files}
use Rattle.in2d_reader.specs.declared.geometry.RawGeometry.{RawGeometry}
use Rattle.rule_reader.specs.declared.rule.Rule.{Rule}
use Rattle.geom_check.specs.Geometry.{PlanarMap}
use Rattle.vol_format.specs.declared.Mesh.{Mesh}
use Rattle.run_log.specs.declared.state.View.{View}
use Rattle.netmesh_cli.specs.Accepted.{IsGeometryText, AreRules, IsMeshText, IsState}
use Rattle.netmesh_cli.specs.Causes.{HoldsWithin}

-- the text of an accepted geometry is held under the name
pub record HoldsGeometry (files : Files) (name : List ℕ) (raw : RawGeometry) (g : PlanarMap) : Type 0 where
  pub bytes : List ℕ
  pub holds : HoldsWithin 1048576 files name bytes
  pub written : IsGeometryText bytes raw g

-- a rule file with these rules is held under the name
pub record HoldsRules (files : Files) (name : List ℕ) (rules : List Rule) : Type 0 where
  pub bytes : List ℕ
  pub holds : HoldsWithin 1048576 files name bytes
  pub are : AreRules bytes rules

-- the text of a mesh at this shift is held under the name
pub record HoldsVol (files : Files) (name : List ℕ) (shift : ℤ) (mesh : Mesh) : Type 0 where
  pub bytes : List ℕ
  pub holds : HoldsWithin 268435456 files name bytes
  pub written : IsMeshText shift bytes mesh

-- the text of a log with this state after this step of this domain's run is held under the name
pub record HoldsState (files : Files) (name : List ℕ) (domain step : ℕ) (view : View) : Type 0 where
  pub bytes : List ℕ
  pub holds : HoldsWithin 268435456 files name bytes
  pub state : IsState domain step bytes view
