use mathlib.Core.Path.{refl}
use Rattle.rule_match.proofs.Advances.{advance_found, advance_same, advance_noted, settled_found, settled_never}
use Rattle.rule_match.proofs.GoingOn.{whole}
use Rattle.rule_match.proofs.walk.settle.Goals as goal

-- no candidate whatever the front holds
pub returns-in_default-clause-advance : goal.returns-in_default-clause-advance
returns-in_default-clause-advance g c = advance_same c.args.progress.now

pub returns-in_default-clause-settled : goal.returns-in_default-clause-settled
returns-in_default-clause-settled g c = settled_never (g.met.T.Trial.more c.args.trial.now) c.args.progress.now c.args.chosen.now c.in_default.ensures.none c.in_default.ensures.no_reason

-- not before the best so far
pub returns-then-not-comes_first-clause-advance : goal.returns-then-not-comes_first-clause-advance
returns-then-not-comes_first-clause-advance g c = advance_same c.args.progress.now

-- a new best
pub returns-then-branch-clause-advance : goal.returns-then-branch-clause-advance
returns-then-branch-clause-advance g c = advance_found c.args.progress.now _ c.in-Some.found c.args.chosen.now refl (c.comes_first.ensures.first c.if-not-comes_first.false) c.in_ok-judge.ensures.notes
    (whole (g.T.Trial.holds c.args.trial.now) c.args.chosen.now (c.in_ok-judge.ensures.held c.if-branch.true)) c.in-Some.ensures.found

pub returns-then-branch-clause-settled : goal.returns-then-branch-clause-settled
returns-then-branch-clause-settled g c = settled_found _ c.in-Some.found c.args.chosen.now refl c.in-Some.ensures.found

-- a reason is noted
pub returns-else-branch-clause-advance : goal.returns-else-branch-clause-advance
returns-else-branch-clause-advance g c = advance_noted c.args.progress.now _ refl c.in_ok-judge.ensures.notes
