use Rattle.std.proofs.Common.{sym, ◌∙◌}
use Rattle.match_tests.proofs.Openings.{all_differ}
use Rattle.match_tests.proofs.fronts.are_places.Goals as goal

pub returns-then-all-clause-different : goal.returns-then-all-clause-different
returns-then-all-clause-different c = λ yes. all_differ c.args.corners.now (sym c.do_differ.ensures ∙ yes)
