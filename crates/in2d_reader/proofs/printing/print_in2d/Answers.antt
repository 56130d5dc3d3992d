use Rattle.in2d_reader.proofs.Printed.{is_again}
use Rattle.in2d_reader.proofs.printing.print_in2d.Goals as goal

pub returns-clause-again : goal.returns-clause-again
returns-clause-again c = is_again (λ text. text.items) c.text_of.result c.args.g.now c.requires c.text_of.ensures
