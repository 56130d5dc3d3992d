use Rattle.std.proofs.Common.{ap, map, string_bytes}
use Rattle.std.specs.Option.{option_copied}
use Rattle.call_words.proofs.FormPlaces.{one_found}
use Rattle.call_words.proofs.form.one_place.Goals as goal

pub returns-clause-ok : goal.returns-clause-ok
returns-clause-ok c = one_found (map string_bytes c.args.words.now) c.args.form c.in-Some.form c.in-Some-first.first.now c.requires c.in-Some.is (ap option_copied c.in-Some-first.is)
