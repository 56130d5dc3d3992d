use Rattle.word_scan.specs.Scan.{words_of}
use Rattle.run_log.proofs.Answered.{is_found, is_only, is_refused, is_refused_only}
use Rattle.run_log.proofs.reading.read_log.Goals as goal

pub returns-clause-found : goal.returns-clause-found
returns-clause-found c = is_found (words_of c.args.bytes.now) c.whole.result c.whole.ensures.read

pub returns-clause-only : goal.returns-clause-only
returns-clause-only c = is_only (words_of c.args.bytes.now) c.whole.result c.whole.ensures.read

pub returns-clause-refused : goal.returns-clause-refused
returns-clause-refused c = is_refused (words_of c.args.bytes.now) c.whole.result c.whole.ensures.read

pub returns-clause-refused_only : goal.returns-clause-refused_only
returns-clause-refused_only c = is_refused_only (words_of c.args.bytes.now) c.whole.result c.whole.ensures.read
