use Rattle.rule_match.proofs.Prefixes.{prefix_fits}
use Rattle.rule_match.proofs.Orders.{fits_in_order, back_again}
use Rattle.rule_match.proofs.laws.law_order.Goals as goal

pub returns-clause-fits : goal.returns-clause-fits
returns-clause-fits c = fits_in_order

pub returns-clause-back : goal.returns-clause-back
returns-clause-back c = back_again

pub returns-clause-so_far : goal.returns-clause-so_far
returns-clause-so_far c = prefix_fits
