use Rattle.netmesh_cli.proofs.Comments.{again}
use Rattle.netmesh_cli.proofs.geometry_laws.shown_again.Goals as goal

pub returns : goal.returns
returns c = again
