use Rattle.netmesh_cli.specs.Run.{input_of}
use Rattle.netmesh_cli.proofs.Works.{run_of_input, exact_run}
use Rattle.netmesh_cli.proofs.run.make_run.Goals as goal

pub returns-clause-exact : goal.returns-clause-exact
returns-clause-exact g c =
    let input = input_of c.args.input.now in
    let of_run = run_of_input input _ c.run_options-options.result c.in_ok-run.run' c.in_ok-rules.ensures c.run_options-options.ensures.value c.in_ok-run.ensures.run in
    exact_run input c.in_ok-run.run' c.segments-segments.ensures.accepted c.requires.rules of_run
