use Rattle.std.proofs.Common.{map, string_bytes}
use Rattle.call_words.specs.Walks.{walk_seen}
use Rattle.call_words.proofs.Misfits.{starts, behind_is}
use Rattle.call_words.proofs.misfit.misfit_behind.Goals as goal

pub misfit_from-requires : goal.misfit_from-requires
misfit_from-requires c = starts c.args.verb (walk_seen c.new.result) c.new.ensures

pub returns : goal.returns
returns c = behind_is c.args.verb (map string_bytes c.args.words.now) c.misfit_from.result (walk_seen c.new.result) c.new.ensures c.misfit_from.ensures
