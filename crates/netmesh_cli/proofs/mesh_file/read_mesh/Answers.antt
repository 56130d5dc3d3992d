use Rattle.std.proofs.Common.{rules, ◌≡◌, ◌≢◌, subst, w32, to_z, of_z}
use Rattle.std.specs.Prelude.{ℤ}
use Rattle.vol_format.specs.declared.refusal.VolRefusal.TheVariants.{Memory as NoMemoryForMesh}
use Rattle.netmesh_cli.specs.Accepted.{IsMeshFault}
use Rattle.netmesh_cli.proofs.Meshes.{names_its_points}
use Rattle.netmesh_cli.proofs.Refusals.{fault_of_mesh}
use Rattle.netmesh_cli.proofs.mesh_file.read_mesh.Goals as goal

pub returns-in-Ok-clause-names : goal.returns-in-Ok-clause-names
returns-in-Ok-clause-names c = names_its_points _ _ c.in-Ok.mesh c.in-Ok.ensures.found.0 c.in-Ok.ensures.found.1

pub returns-in-Err : goal.returns-in-Err
returns-in-Err c =
    let named : c.in-Err.fault ≢ NoMemoryForMesh = search rules in
    let shift : to_z w32 (of_z w32 c.shift.result) ≡ c.args.geometry.now.shift = search rules in
    record {
      read = tt;
      names = tt;
      refused = subst (λ (d : ℤ). IsMeshFault d c.args.bytes.now c.in-Err.fault) shift (fault_of_mesh _ c.args.bytes.now c.in-Err.fault named c.in-Err.ensures.refused c.in-Err.ensures.only);
    }
