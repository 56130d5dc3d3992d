use Rattle.word_scan.proofs.Laws.{reads_text}
use Rattle.word_scan.proofs.TokenReading.{reads_tokens}
use Rattle.word_scan.proofs.scanner.Scanner.new.Goals as goal

pub returns-clause-spaced : goal.returns-clause-spaced
returns-clause-spaced c = λ spaced. rw spaced (reads_text c.args.text.now)

pub returns-clause-tokens : goal.returns-clause-tokens
returns-clause-tokens c = λ tokens. rw tokens (reads_tokens c.args.text.now)
