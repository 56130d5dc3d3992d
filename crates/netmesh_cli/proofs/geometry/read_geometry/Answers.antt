use Rattle.netmesh_cli.proofs.Readable.{readable}
use Rattle.netmesh_cli.proofs.geometry.read_geometry.Goals as goal

pub check_rows-requires : goal.check_rows-requires
check_rows-requires c = readable c.in_ok-rows.rows c.in_ok-rows.ensures.printable
