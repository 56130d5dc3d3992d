use Rattle.rule_match.specs.MoreNotes.{excused_more}
use Rattle.rule_match.proofs.laws.law_more.Goals as goal

pub returns : goal.returns
returns c = excused_more
