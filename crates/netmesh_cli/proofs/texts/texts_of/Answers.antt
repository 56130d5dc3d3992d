use Rattle.mesh_run.proofs.NamedRuns.{runs_named}
use Rattle.netmesh_cli.specs.Run.{input_of, options_of}
use Rattle.netmesh_cli.proofs.Works.{run_pieces_named}
use Rattle.netmesh_cli.proofs.texts.texts_of.Goals as goal

pub mesh_of-requires-clause-pieces : goal.mesh_of-requires-clause-pieces
mesh_of-requires-clause-pieces c = rw c.segments.ensures.value (run_pieces_named (input_of c.args.input.now) c.args.run.now c.segments.ensures.accepted c.requires.run)

pub mesh_of-requires-clause-names : goal.mesh_of-requires-clause-names
mesh_of-requires-clause-names c =
    let input = input_of c.args.input.now in
    runs_named input.geometry input.rules (options_of input) c.args.run.now c.segments.ensures.accepted c.requires.rules c.requires.run
