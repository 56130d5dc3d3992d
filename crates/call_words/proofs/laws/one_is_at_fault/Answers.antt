use Rattle.call_words.proofs.Shown.{number_shown, name_shown}
use Rattle.call_words.proofs.laws.one_is_at_fault.Goals as goal

pub returns-clause-number : goal.returns-clause-number
returns-clause-number c = number_shown

pub returns-clause-name : goal.returns-clause-name
returns-clause-name c = name_shown
