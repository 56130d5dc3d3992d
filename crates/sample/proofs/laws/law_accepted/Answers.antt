use Rattle.sample.proofs.Accepted.{readable, accepted}
use Rattle.sample.proofs.laws.law_accepted.Goals as goal

-- src/laws.rt:9:1
pub returns-clause-readable : goal.returns-clause-readable
returns-clause-readable c = readable

-- src/laws.rt:9:1
pub returns-clause-accepted : goal.returns-clause-accepted
returns-clause-accepted c = accepted
