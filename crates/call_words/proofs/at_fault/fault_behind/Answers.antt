use Rattle.std.proofs.Common.{map, string_bytes}
use Rattle.call_words.specs.Walks.{walk_seen}
use Rattle.call_words.proofs.AtFault.{starts_course, fault_is}
use Rattle.call_words.proofs.at_fault.fault_behind.Goals as goal

pub fault_from-requires : goal.fault_from-requires
fault_from-requires c = starts_course c.args.verb c.args.names c.looks.result (walk_seen c.new.result) c.looks.ensures c.new.ensures

pub returns : goal.returns
returns c = fault_is c.args.verb c.args.names c.looks.result (map string_bytes c.args.words.now) c.fault_from.result (walk_seen c.new.result) c.looks.ensures c.new.ensures c.fault_from.ensures
