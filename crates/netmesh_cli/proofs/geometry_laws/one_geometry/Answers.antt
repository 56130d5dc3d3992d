use Rattle.netmesh_cli.proofs.Excluded.{geometry_once}
use Rattle.netmesh_cli.proofs.geometry_laws.one_geometry.Goals as goal

pub returns : goal.returns
returns c = geometry_once
