use mathlib.Core.Path.{refl}
use Rattle.rule_maps.proofs.Summing.{number_within, constant_back}
use Rattle.rule_maps.proofs.sums.constants.Goals as goal

pub returns : goal.returns
returns c = rw (constant_back c.args.place.now.x c.resting.result (number_within _ c.requires.place.x) c.resting.ensures.small, constant_back c.args.place.now.y c.resting-2.result (number_within _ c.requires.place.y) c.resting-2.ensures.small, c.resting.ensures.value, c.resting-2.ensures.value, c.as_slice.ensures, c.as_slice-2.ensures) refl
