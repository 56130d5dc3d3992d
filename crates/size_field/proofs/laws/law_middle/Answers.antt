use Rattle.size_field.proofs.Middles.{middle_is, is_middle}
use Rattle.size_field.proofs.laws.law_middle.Goals as goal

pub returns : goal.returns
returns c = record { found = middle_is; only = is_middle }
