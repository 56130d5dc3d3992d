use Rattle.std.proofs.Common.{◌∙◌, ap}
use Rattle.word_scan.specs.Decimals.{decimal_of}
use Rattle.word_scan.proofs.DecimalLaws.{decimal_read, is_found}
use Rattle.word_scan.proofs.decimals.decimal.Goals as goal

pub returns-clause-found : goal.returns-clause-found
returns-clause-found c = is_found c.args.bytes.now c.read.result c.read.ensures

pub returns-clause-only : goal.returns-clause-only
returns-clause-only c = λ parts is e. c.read.ensures ∙ ap decimal_of e ∙ decimal_read parts is
