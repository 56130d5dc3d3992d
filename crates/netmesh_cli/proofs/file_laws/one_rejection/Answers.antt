use Rattle.netmesh_cli.proofs.Accepting.{accepted_unrejected, one_rejection}
use Rattle.netmesh_cli.proofs.file_laws.one_rejection.Goals as goal

pub returns-clause-one : goal.returns-clause-one
returns-clause-one c = one_rejection

pub returns-clause-never_both : goal.returns-clause-never_both
returns-clause-never_both c = accepted_unrejected
