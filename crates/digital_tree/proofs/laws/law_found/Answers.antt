use Rattle.digital_tree.proofs.WalkLaws.{found_again, found_behind}
use Rattle.digital_tree.proofs.laws.law_found.Goals as goal

pub returns-clause-first : goal.returns-clause-first
returns-clause-first g c = found_again

pub returns-clause-next : goal.returns-clause-next
returns-clause-next g c = found_behind
