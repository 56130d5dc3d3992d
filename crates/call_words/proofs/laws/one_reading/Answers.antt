use Rattle.call_words.proofs.WordsRead.{one_reading}
use Rattle.call_words.proofs.laws.one_reading.Goals as goal

pub returns : goal.returns
returns c = one_reading
