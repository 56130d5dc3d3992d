use Rattle.std.proofs.Common.{◌∙◌, ap}
use Rattle.std.specs.Option.{is_some}
use Rattle.vol_format.proofs.Words.{any_whole}
use Rattle.vol_format.proofs.reader.is_whole.Goals as goal

pub returns : goal.returns
returns c = c.is_some.ensures ∙ ap is_some c.whole.ensures.value ∙ any_whole c.args.word.now
