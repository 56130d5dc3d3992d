use Rattle.std.proofs.Common.{map, string_bytes}
use Rattle.call_words.specs.Begun.{IsVerbAnd, StandsFor}
use Rattle.fault_text.proofs.CallWords.{word_found, no_word, number_there, name_there}
use Rattle.fault_text.proofs.words.fault_of.Goals as goal

pub returns-clause-found : goal.returns-clause-found
returns-clause-found c = word_found (IsVerbAnd (StandsFor c.args.names)) (map string_bytes c.args.words.now) c.first_at_fault-number.result c.numbered.result c.numbered.ensures.found c.first_at_fault-number.ensures

pub returns-clause-none : goal.returns-clause-none
returns-clause-none c = no_word (IsVerbAnd (StandsFor c.args.names)) c.args.words.now c.first_at_fault-number.result c.numbered.result c.numbered.ensures.none c.first_at_fault-number.ensures

pub returns-clause-number : goal.returns-clause-number
returns-clause-number c = number_there c.args.names c.args.words.now c.first_at_fault-number.result c.numbered.result c.numbered.ensures.none c.first_at_fault-number.ensures

pub returns-clause-name : goal.returns-clause-name
returns-clause-name c = name_there c.args.names c.args.words.now c.first_at_fault-number.result c.numbered.result c.numbered.ensures.none c.first_at_fault-number.ensures
