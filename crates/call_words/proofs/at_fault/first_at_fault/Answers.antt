use Rattle.std.proofs.Common.{map, string_bytes}
use Rattle.call_words.proofs.Walking.{first_cut}
use Rattle.call_words.proofs.Calling.{first_word}
use Rattle.call_words.specs.Begun.{IsVerbAnd, StandsFor}
use Rattle.call_words.proofs.FirstOff.{no_text}
use Rattle.call_words.proofs.Misfits.{no_verb, of_verb}
use Rattle.call_words.proofs.AtFault.{some_stand}
use Rattle.call_words.proofs.at_fault.first_at_fault.Goals as goal

pub returns-in_default : goal.returns-in_default
returns-in_default c = no_text (IsVerbAnd (StandsFor c.args.names)) c.args.words.now c.in_default.len_below (some_stand c.args.names)

pub returns-in-None : goal.returns-in-None
returns-in-None c =
    let e = first_cut c.args.words.now c.first-item.result c.in-len1-up.len_at_least c.first-item.is in
    no_verb (StandsFor c.args.names) (map string_bytes c.args.words.now) c.as_str.result.now _ (first_word c.args.words.now c.first-item.result _ c.as_str.result.now e c.as_str.ensures.value) (some_stand c.args.names) c.in-None.ensures.none

pub returns-in-Some : goal.returns-in-Some
returns-in-Some c =
    let e = first_cut c.args.words.now c.first-item.result c.in-len1-up.len_at_least c.first-item.is in
    of_verb (StandsFor c.args.names) (map string_bytes c.args.words.now) c.as_str.result.now c.in-Some.verb _ c.fault_behind.result (first_word c.args.words.now c.first-item.result _ c.as_str.result.now e c.as_str.ensures.value) c.in-Some.ensures.found c.fault_behind.ensures
