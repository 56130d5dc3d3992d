use Rattle.std.proofs.Common.{map, string_bytes}
use Rattle.call_words.specs.Begun.{IsVerbAnd, IsFormed}
use Rattle.fault_text.proofs.CallWords.{word_found, no_word}
use Rattle.fault_text.proofs.words.misfit_of.Goals as goal

pub returns-clause-found : goal.returns-clause-found
returns-clause-found c = word_found (IsVerbAnd IsFormed) (map string_bytes c.args.words.now) c.first_misfit-number.result c.numbered.result c.numbered.ensures.found c.first_misfit-number.ensures

pub returns-clause-none : goal.returns-clause-none
returns-clause-none c = no_word (IsVerbAnd IsFormed) c.args.words.now c.first_misfit-number.result c.numbered.result c.numbered.ensures.none c.first_misfit-number.ensures
