use Rattle.word_scan.proofs.TokenReading.{reads_tokens}
use Rattle.word_scan.proofs.word_laws.tokens_of_parts.Goals as goal

pub returns : goal.returns
returns c = reads_tokens
