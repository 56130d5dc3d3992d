use Rattle.rule_maps.proofs.Ranges.{along_fraction, left_fraction}
use Rattle.rule_maps.proofs.laws.law_range.Goals as goal

pub returns : goal.returns
returns c = record { along = along_fraction; left = left_fraction }
