use Rattle.mesh_run.proofs.OneRun.{one_run}
use Rattle.netmesh_cli.specs.Run.{options_of}
use Rattle.netmesh_cli.proofs.geometry_laws.one_run.Goals as goal

pub returns : goal.returns
returns c = λ input. one_run input.geometry input.rules (options_of input)
