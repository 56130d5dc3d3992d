use Rattle.word_scan.proofs.LongestToken.{longest_found, found_longest, none_found, found_none}
use Rattle.word_scan.proofs.word_laws.longest_token.Goals as goal

pub returns-clause-found : goal.returns-clause-found
returns-clause-found c = longest_found

pub returns-clause-only : goal.returns-clause-only
returns-clause-only c = found_longest

pub returns-clause-none : goal.returns-clause-none
returns-clause-none c = none_found

pub returns-clause-missing : goal.returns-clause-missing
returns-clause-missing c = found_none
