use Rattle.std.proofs.Common.{lit<}
use Rattle.std.proofs.lemmas.Str.Pattern.{split_once_first}
use Rattle.call_words.proofs.Halves.{halves_is}
use Rattle.call_words.proofs.misfit.halves.Goals as goal

pub returns : goal.returns
returns c = halves_is c.args.text.now c.split_once.result (split_once_first 61 c.args.text.now c.split_once.result c.split_once.ensures.cases (lit< tt))
