use Rattle.std.proofs.Common.{rules, ◌≡◌, ◌≢◌, map, string_bytes}
use Rattle.std.proofs.lemmas.Result.{err_from_is_err_and}
use Rattle.call_words.specs.WordsRead.{given_of}
use Rattle.call_words.proofs.Calling.{refused_mesh, mesh_calls, mesh_value, one_name}
use Rattle.call_words.proofs.forms.read_mesh.Goals as goal

pub returns-in_err-geometry-clause-fault : goal.returns-in_err-geometry-clause-fault
returns-in_err-geometry-clause-fault c = let p = err_from_is_err_and c.from_residual.result c.from_residual.ensures.1 in rw (p.1, p.2) (refused_mesh (map string_bytes c.args.words.now) _ c.in_err-geometry.ensures.fault.0 c.in_err-geometry.ensures.fault.1)

pub returns-in_err-options-clause-fault : goal.returns-in_err-options-clause-fault
returns-in_err-options-clause-fault c = let p = err_from_is_err_and c.from_residual-in_err-options.result c.from_residual-in_err-options.ensures.1 in rw (p.1, p.2) (mesh_value (map string_bytes c.args.words.now) _ c.in_ok-geometry.geometry.now c.in_ok-geometry.rules.now c.in_ok-geometry.mesh.now c.in_ok-geometry.log.now (given_of c.in_ok-geometry.settings) c.in_ok-geometry.ensures.ok c.in_err-options.ensures.fault.0 c.in_err-options.ensures.fault.1)

pub returns-then-eq-clause-fault : goal.returns-then-eq-clause-fault
returns-then-eq-clause-fault c =
    let same : c.in_ok-geometry.mesh.now ≡ c.in_ok-geometry.log.now = search rules in
    one_name (map string_bytes c.args.words.now) c.in_ok-geometry.geometry.now c.in_ok-geometry.rules.now c.in_ok-geometry.mesh.now c.in_ok-geometry.log.now (given_of c.in_ok-geometry.settings) c.in_ok-options.options c.in_ok-geometry.ensures.ok c.in_ok-options.ensures.ok same

pub returns-clause-ok : goal.returns-clause-ok
returns-clause-ok c =
    let differ : c.in_ok-geometry.mesh.now ≢ c.in_ok-geometry.log.now = search rules in
    mesh_calls (map string_bytes c.args.words.now) c.in_ok-geometry.geometry.now c.in_ok-geometry.rules.now c.in_ok-geometry.mesh.now c.in_ok-geometry.log.now (given_of c.in_ok-geometry.settings) c.in_ok-options.options c.in_ok-geometry.ensures.ok c.in_ok-options.ensures.ok differ
