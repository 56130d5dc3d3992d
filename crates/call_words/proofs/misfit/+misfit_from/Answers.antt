use Rattle.std.proofs.Common.{rules, map, string_bytes}
use Rattle.call_words.specs.Walks.{walk_seen}
use Rattle.call_words.proofs.Walking.{first_cut}
use Rattle.call_words.proofs.Calling.{first_word}
use Rattle.call_words.proofs.Misfits.{no_words_fit, goes_on, stays, stops, sound_on, counts_on}
use Rattle.call_words.proofs.misfit.+misfit_from.Goals as goal

pub returns-in_default : goal.returns-in_default
returns-in_default t c = no_words_fit c.args.verb (walk_seen c.args.walk.now) c.args.words.now c.in_default.len_below c.requires

pub misfit_from-requires : goal.misfit_from-requires
misfit_from-requires t c = (search rules, sound_on c.args.verb (walk_seen c.args.walk.now) c.as_str.result.now c.walked_on.result c.in-Some.next c.in-Some.is c.walked_on.ensures c.requires)

pub returns-in-None : goal.returns-in-None
returns-in-None t c =
    let e = first_cut c.args.words.now c.word-item.result c.in-len1-up.len_at_least c.word-item.is in
    stops c.args.verb (walk_seen c.args.walk.now) c.as_str.result.now _ (map string_bytes c.args.words.now) (first_word c.args.words.now c.word-item.result _ c.as_str.result.now e c.as_str.ensures.value) (stays c.args.verb (walk_seen c.args.walk.now) c.as_str.result.now c.walked_on.result c.in-None.is c.walked_on.ensures) c.requires

pub returns-in-Some : goal.returns-in-Some
returns-in-Some t c =
    let e = first_cut c.args.words.now c.word-item.result c.in-len1-up.len_at_least c.word-item.is in
    counts_on c.args.verb (walk_seen c.args.walk.now) (walk_seen c.in-Some.next) c.as_str.result.now _ (map string_bytes c.args.words.now) c.misfit_from.result (first_word c.args.words.now c.word-item.result _ c.as_str.result.now e c.as_str.ensures.value) (goes_on c.args.verb (walk_seen c.args.walk.now) c.as_str.result.now c.walked_on.result c.in-Some.next c.in-Some.is c.walked_on.ensures) c.requires c.misfit_from.ensures
