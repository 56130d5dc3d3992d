use Rattle.std.proofs.Common.{rules, map, string_bytes}
use Rattle.call_words.specs.Walks.{course_seen}
use Rattle.call_words.proofs.Walking.{first_cut}
use Rattle.call_words.proofs.Calling.{first_word}
use Rattle.call_words.proofs.AtFault.{none_left, stops_there, goes_further}
use Rattle.call_words.proofs.at_fault.+fault_from.Goals as goal

pub returns-in_default : goal.returns-in_default
returns-in_default t c = none_left c.args.verb (course_seen c.args.course.now) c.args.words.now c.in_default.len_below c.requires

pub fault_from-requires : goal.fault_from-requires
fault_from-requires t c = (search rules, c.in-Some.ensures.found.still)

pub returns-in-None : goal.returns-in-None
returns-in-None t c =
    let e = first_cut c.args.words.now c.word-item.result c.in-len1-up.len_at_least c.word-item.is in
    stops_there c.args.verb (course_seen c.args.course.now) c.as_str.result.now _ (map string_bytes c.args.words.now) (first_word c.args.words.now c.word-item.result _ c.as_str.result.now e c.as_str.ensures.value) c.in-None.ensures.none c.requires

pub returns-in-Some : goal.returns-in-Some
returns-in-Some t c =
    let e = first_cut c.args.words.now c.word-item.result c.in-len1-up.len_at_least c.word-item.is in
    goes_further c.args.verb (course_seen c.args.course.now) (course_seen c.in-Some.next) c.as_str.result.now _ (map string_bytes c.args.words.now) c.fault_from.result (first_word c.args.words.now c.word-item.result _ c.as_str.result.now e c.as_str.ensures.value) c.in-Some.ensures.found c.fault_from.ensures
