use Rattle.rule_match.proofs.StillRefused.{far_unmapped, fewer_notes, still_refused, untouched_refused}
use Rattle.rule_match.proofs.laws.law_still_refused.Goals as goal

pub returns : goal.returns
returns c = record {
  again = still_refused;
  untouched = untouched_refused;
  far = far_unmapped;
  fewer = fewer_notes;
}
