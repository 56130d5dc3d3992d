use Rattle.sample.proofs.TwelveRules.{all_printable}
use Rattle.sample.proofs.twelve.twelve_rules.Goals as goal

pub returns-clause-printable : goal.returns-clause-printable
returns-clause-printable c = all_printable c.held.result c.held.ensures
