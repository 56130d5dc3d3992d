use Rattle.std.proofs.Common.{List, length, map, subst, sym, ap, ◌∙◌}
use Rattle.std.specs.Prelude.{Option}
use Rattle.std.proofs.lemmas.Result.{err_from_is_err_and}
use Rattle.folder_io.specs.Causes.{Told}
use Rattle.folder_io.specs.Names.{Files}
use Rattle.netmesh_cli.specs.Causes.{HoldsWithin}
use Rattle.netmesh_cli.specs.Held.{HoldsGeometry}
use Rattle.vol_format.specs.declared.MeshElement.{MeshElement}
use Rattle.netmesh_cli.specs.Judged.{verdict_line}
use Rattle.netmesh_cli.specs.Jobs.{put_of}
use Rattle.netmesh_cli.specs.Taking.{mesh_at}
use Rattle.netmesh_cli.proofs.Firsts.{take_of_fetch, take_of_bytes}
use Rattle.netmesh_cli.proofs.Making.{check_at_geometry, check_at_mesh, check_made, vol_held}
use Rattle.netmesh_cli.proofs.Rejecting.{mesh_may}
use Rattle.netmesh_cli.proofs.check.make_check.Goals as goal

pub returns-in_err-read-clause-refused : goal.returns-in_err-read-clause-refused
returns-in_err-read-clause-refused g c =
    let p = err_from_is_err_and c.from_residual.result c.from_residual.ensures.1 in
    rw (p.1, p.2) (check_at_geometry c.args.geometry.now c.args.mesh.now _ _ _ c.in_err-read.ensures.refused)

pub returns-in_err-bytes-clause-refused : goal.returns-in_err-bytes-clause-refused
returns-in_err-bytes-clause-refused g c =
    let p = err_from_is_err_and c.from_residual-in_err-bytes.result c.from_residual-in_err-bytes.ensures.1 in
    rw (p.1, p.2) (check_at_mesh c.args.geometry.now c.args.mesh.now _ _ _ _ _ _ c.take_geometry.ensures.held c.take_geometry.ensures.rises c.in_ok-read.ensures.accepted
    (take_of_fetch _ _ _ (mesh_at c.args.geometry.now c.args.mesh.now) c.in_err-bytes.ensures.refused))

pub returns-in_err-mesh-clause-refused : goal.returns-in_err-mesh-clause-refused
returns-in_err-mesh-clause-refused g c =
    let p = err_from_is_err_and c.from_residual-in_err-mesh.result c.from_residual-in_err-mesh.ensures.1 in
    let s1 = g.F.Folder.state c.take_geometry.new.folder in
    let s2 = g.F.Folder.state c.take.new.folder in
    let read = c.in_ok-read.read in
    let file = mesh_at c.args.geometry.now c.args.mesh.now in
    let holds = subst (λ (held : Option Files). Told held (λ files. HoldsGeometry files c.args.geometry.now read.rows read.geometry)) (sym c.take_geometry.ensures.held) c.in_ok-read.ensures.accepted in
    let may = mesh_may s1.held c.args.geometry.now c.deref.result.now read.rows read.geometry _ holds c.in_err-mesh.ensures.refused in
    rw (p.1, p.2) (check_at_mesh c.args.geometry.now c.args.mesh.now _ s1 s2 read.rows read.geometry _ c.take_geometry.ensures.held c.take_geometry.ensures.rises c.in_ok-read.ensures.accepted
    (take_of_bytes s1 s2 _ file c.in_ok-bytes.bytes.items c.deref.result.now c.deref.ensures.value c.in_ok-bytes.ensures.bytes may))

pub returns-clause-made : goal.returns-clause-made
returns-clause-made g c =
    let read = c.in_ok-read.read in
    let mesh = c.in_ok-mesh.mesh in
    let verdict = c.in_ok-verdict.verdict in
    let s0 = g.F.Folder.state c.args.folder.now in
    let taken = subst (λ (held : Option Files). Told held (λ files. HoldsWithin 268435456 files c.args.mesh.now c.in_ok-bytes.bytes.items)) c.take_geometry.ensures.held c.in_ok-bytes.ensures.bytes in
    check_made s0.held c.args.geometry.now c.args.mesh.now read.rows read.geometry mesh verdict _ (record {
      geometry_held = c.in_ok-read.ensures.accepted;
      mesh_held = vol_held s0.held c.args.mesh.now c.in_ok-bytes.bytes.items c.deref.result.now read.geometry.shift mesh c.deref.ensures.value taken c.in_ok-mesh.ensures.read;
      is_verdict = c.in_ok-verdict.ensures;
      puts = ap (map put_of) c.new.ensures.items;
      answer = c.in_ok-answer.ensures ∙ ap (λ (elements : List MeshElement). verdict_line (length elements) verdict) c.as_slice.ensures;
      outcome = c.judged.ensures.outcome;
    })
