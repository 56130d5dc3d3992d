use Rattle.netmesh_cli.proofs.Excluded.{rules_once}
use Rattle.netmesh_cli.proofs.States.{one_text}
use Rattle.netmesh_cli.proofs.rule_laws.one_listing.Goals as goal

pub returns-clause-one_list : goal.returns-clause-one_list
returns-clause-one_list c = rules_once

pub returns-clause-one_text : goal.returns-clause-one_text
returns-clause-one_text c = one_text
