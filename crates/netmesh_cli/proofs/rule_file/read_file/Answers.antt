use Rattle.std.proofs.Common.{rules, ◌≢◌}
use Rattle.rule_reader.specs.declared.fault.RuleRefusal.TheVariants.{Memory as NoMemoryForRules}
use Rattle.netmesh_cli.proofs.Refusals.{fault_of_rules}
use Rattle.netmesh_cli.proofs.rule_file.read_file.Goals as goal

pub returns-in-Err : goal.returns-in-Err
returns-in-Err c =
    let named : c.in-Err.fault ≢ NoMemoryForRules = search rules in
    record { accepted = tt; printable = tt; refused = fault_of_rules c.args.bytes.now c.in-Err.fault named c.in-Err.ensures.refused c.in-Err.ensures.only }
