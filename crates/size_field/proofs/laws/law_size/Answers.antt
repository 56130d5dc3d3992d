use Rattle.size_field.proofs.LeastSizes.{is_least}
use Rattle.size_field.proofs.laws.law_size.Goals as goal

pub returns : goal.returns
returns c = is_least
