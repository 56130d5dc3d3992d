use Rattle.word_scan.proofs.DecimalLaws.{decimal_found, decimal_read}
use Rattle.word_scan.proofs.word_laws.decimal_of_parts.Goals as goal

pub returns-clause-found : goal.returns-clause-found
returns-clause-found c = decimal_found

pub returns-clause-only : goal.returns-clause-only
returns-clause-only c = decimal_read
