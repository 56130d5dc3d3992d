use Rattle.netmesh_cli.proofs.Firsts.{first_unaccepted, one_first}
use Rattle.netmesh_cli.proofs.file_laws.one_first.Goals as goal

pub returns-clause-one : goal.returns-clause-one
returns-clause-one c = one_first

pub returns-clause-never_both : goal.returns-clause-never_both
returns-clause-never_both c = first_unaccepted
