use Rattle.std.proofs.Common.{map, string_bytes}
use Rattle.call_words.proofs.Walking.{first_cut}
use Rattle.call_words.proofs.Calling.{first_word}
use Rattle.call_words.proofs.FirstOff.{no_text}
use Rattle.call_words.proofs.Misfits.{some_call, no_verb, of_verb}
use Rattle.call_words.specs.Begun.{IsVerbAnd, IsFormed}
use Rattle.call_words.proofs.misfit.first_misfit.Goals as goal

pub returns-in_default : goal.returns-in_default
returns-in_default c = no_text (IsVerbAnd IsFormed) c.args.words.now c.in_default.len_below some_call

pub returns-in-None : goal.returns-in-None
returns-in-None c =
    let e = first_cut c.args.words.now c.first-item.result c.in-len1-up.len_at_least c.first-item.is in
    no_verb IsFormed (map string_bytes c.args.words.now) c.as_str.result.now _ (first_word c.args.words.now c.first-item.result _ c.as_str.result.now e c.as_str.ensures.value) some_call c.in-None.ensures.none

pub returns-in-Some : goal.returns-in-Some
returns-in-Some c =
    let e = first_cut c.args.words.now c.first-item.result c.in-len1-up.len_at_least c.first-item.is in
    of_verb IsFormed (map string_bytes c.args.words.now) c.as_str.result.now c.in-Some.verb _ c.misfit_behind.result (first_word c.args.words.now c.first-item.result _ c.as_str.result.now e c.as_str.ensures.value) c.in-Some.ensures.found c.misfit_behind.ensures
