use Rattle.std.proofs.Common.{refl}
use Rattle.word_scan.specs.Parts.{spelling}
use Rattle.word_scan.proofs.Laws.{reads_text}
use Rattle.word_scan.proofs.word_laws.words_of_parts.Goals as goal

pub returns-clause-reads : goal.returns-clause-reads
returns-clause-reads c = reads_text

pub returns-clause-words : goal.returns-clause-words
returns-clause-words c = λ parts are. (reads_text (spelling parts)).bytes parts are refl
