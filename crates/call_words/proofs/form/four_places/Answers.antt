use Rattle.std.proofs.Common.{ap, map, string_bytes}
use Rattle.std.specs.Option.{option_copied}
use Rattle.call_words.proofs.FormPlaces.{four_found}
use Rattle.call_words.proofs.form.four_places.Goals as goal

pub returns-clause-ok : goal.returns-clause-ok
returns-clause-ok c = four_found (map string_bytes c.args.words.now) c.args.form c.in-Some.form c.in-Some-first.first.now c.in-Some-second.second.now c.in-Some-third.third.now c.in-Some-fourth.fourth.now c.requires c.in-Some.is (ap option_copied c.in-Some-first.is) (ap option_copied c.in-Some-second.is) (ap option_copied c.in-Some-third.is) (ap option_copied c.in-Some-fourth.is)
