use Rattle.word_scan.specs.Scan.{words_of}
use Rattle.in2d_reader.proofs.Refused.{is_found, is_only, is_refused}
use Rattle.in2d_reader.proofs.OneRefusal.{is_refused_only}
use Rattle.in2d_reader.proofs.Printable.{is_printable}
use Rattle.in2d_reader.proofs.reading.read_in2d.Goals as goal

pub returns-clause-found : goal.returns-clause-found
returns-clause-found c = is_found (words_of c.args.bytes.now) c.read_words.result c.read_words.ensures

pub returns-clause-only : goal.returns-clause-only
returns-clause-only c = is_only (words_of c.args.bytes.now) c.read_words.result c.read_words.ensures

pub returns-clause-refused : goal.returns-clause-refused
returns-clause-refused c = is_refused (words_of c.args.bytes.now) c.read_words.result c.read_words.ensures

pub returns-clause-refused_only : goal.returns-clause-refused_only
returns-clause-refused_only c = is_refused_only (words_of c.args.bytes.now) c.read_words.result c.read_words.ensures

pub returns-clause-printable : goal.returns-clause-printable
returns-clause-printable c = is_printable c.args.bytes.now c.read_words.result (is_found (words_of c.args.bytes.now) c.read_words.result c.read_words.ensures)
