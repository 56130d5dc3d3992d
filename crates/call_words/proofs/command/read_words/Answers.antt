use Rattle.call_words.proofs.Walking.{first_cut}
use Rattle.call_words.proofs.Calling.{first_word, whole_fault, whole_command}
use Rattle.call_words.proofs.command.read_words.Goals as goal

pub returns-in_default-verb_called-clause-fault : goal.returns-in_default-verb_called-clause-fault
returns-in_default-verb_called-clause-fault c =
    let e = first_cut c.args.words.now c.first-item.result c.in-len1-up.len_at_least c.first-item.is in
    (_, _, first_word c.args.words.now c.first-item.result _ c.as_str.result.now e c.as_str.ensures.value, c.in_default-verb_called.ensures.none)

pub returns-clause-fault : goal.returns-clause-fault
returns-clause-fault c =
    let e = first_cut c.args.words.now c.first-item.result c.in-len1-up.len_at_least c.first-item.is in
    whole_fault c.in-Some.verb _ _ _ c.read_rest.result (first_word c.args.words.now c.first-item.result _ c.as_str.result.now e c.as_str.ensures.value) c.in-Some.ensures.found c.read_rest.ensures.fault

pub returns-clause-command : goal.returns-clause-command
returns-clause-command c =
    let e = first_cut c.args.words.now c.first-item.result c.in-len1-up.len_at_least c.first-item.is in
    whole_command c.in-Some.verb _ _ _ c.read_rest.result (first_word c.args.words.now c.first-item.result _ c.as_str.result.now e c.as_str.ensures.value) c.in-Some.ensures.found c.read_rest.ensures.ok
