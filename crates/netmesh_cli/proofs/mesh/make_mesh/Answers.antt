use Rattle.std.proofs.lemmas.Result.{err_from_is_err_and}
use Rattle.std.proofs.Common.{refl, subst}
use Rattle.std.specs.Prelude.{Option}
use Rattle.folder_io.specs.Causes.{Told}
use Rattle.folder_io.specs.Names.{Files}
use Rattle.netmesh_cli.specs.Run.{MeshInput}
use Rattle.netmesh_cli.specs.Held.{HoldsRules}
use Rattle.netmesh_cli.specs.Jobs.{made_of, task_of_mesh}
use Rattle.netmesh_cli.proofs.Making.{mesh_at_geometry, mesh_at_rules, mesh_made, made_of_run}
use Rattle.netmesh_cli.proofs.mesh.make_mesh.Goals as goal

pub returns-in_err-read-clause-refused : goal.returns-in_err-read-clause-refused
returns-in_err-read-clause-refused g c =
    let p = err_from_is_err_and c.from_residual.result c.from_residual.ensures.1 in
    rw (p.1, p.2) (mesh_at_geometry (task_of_mesh c.args.call.now) _ _ _ c.in_err-read.ensures.refused)

pub returns-in_err-rules-clause-refused : goal.returns-in_err-rules-clause-refused
returns-in_err-rules-clause-refused g c =
    let p = err_from_is_err_and c.from_residual-in_err-rules.result c.from_residual-in_err-rules.ensures.1 in
    rw (p.1, p.2) (mesh_at_rules (task_of_mesh c.args.call.now) _ _ _ _ _ _ c.take_geometry.ensures.held c.take_geometry.ensures.rises c.in_ok-read.ensures.accepted c.in_err-rules.ensures.refused)

pub returns-clause-made : goal.returns-clause-made
returns-clause-made g c =
    let task = task_of_mesh c.args.call.now in
    let input : MeshInput = record { geometry = c.in_ok-read.read.geometry; rules = c.in_ok-rules.rules; options = c.args.call.now.options } in
    let texts = c.in_ok-texts.ensures in
    let made = c.in_ok-made.ensures in
    mesh_made task _ c.in_ok-read.read.rows input c.in_ok-run.run' (made_of c.in_ok-made.made)
    (record {
      geometry = c.in_ok-read.ensures.accepted;
      rules = subst (λ (held : Option Files). Told held (λ files. HoldsRules files task.rules input.rules)) c.take_geometry.ensures.held c.in_ok-rules.ensures.accepted;
      options = refl;
    })
    c.in_ok-run.ensures.run c.in_ok-run.ensures.exact
    (made_of_run task input c.in_ok-run.run' (made_of c.in_ok-made.made) _ _ _ (record { log_is = texts.log; mesh_is = texts.mesh; line_is = texts.line }) made.puts made.answer made.outcome)
