use Rattle.netmesh_cli.proofs.Ends.{accepted_stuck}
use Rattle.netmesh_cli.proofs.geometry_laws.accepted_is_stuck.Goals as goal

pub returns : goal.returns
returns c = accepted_stuck
