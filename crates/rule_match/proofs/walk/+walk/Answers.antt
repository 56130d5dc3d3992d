use native.Mathlib.Omega.{arith}
use mathlib.Core.Path.{refl, ◌∙◌}
use mathlib.Core.Logic.{inl, inr}
use mathlib.Core.List.{◌∷◌, ◌++◌}
use Rattle.std.specs.Prelude.{slice_index_or}
use Rattle.std.proofs.lemmas.Bool.{cases_lt}
use Rattle.rule_match.specs.Walk.{IsSettled}
use Rattle.rule_match.proofs.Advances.{advance_same, advance_chain, advance_wider, settled_later}
use Rattle.rule_match.proofs.GoingOn.{goes_in_turn, holds_of}
use Rattle.rule_match.proofs.Turns.{carried, element}
use Rattle.rule_match.proofs.walk.+walk.Goals as goal

pub follow-returns-then-not-may_follow-clause-advance : goal.follow-returns-then-not-may_follow-clause-advance
follow-returns-then-not-may_follow-clause-advance g t c = advance_same c.args.progress.now

pub walk-loop-p-init : goal.walk-loop-p-init
walk-loop-p-init g t c = record {
  chosen = refl;
  advance = advance_same c.args.progress.now;
  settled = λ k q rest h. absurd (omega (arith, h));
}

-- an earlier turn's assignments stay settled, and this turn's are settled by the call
pub walk-loop-p-preserved : goal.walk-loop-p-preserved
walk-loop-p-preserved g t c = record {
  chosen = c.in_ok-follow-in-len1-up.ensures.chosen ∙ c.loop-p.invariant.chosen;
  advance = advance_chain c.loop-p.invariant.advance (advance_wider (goes_in_turn (g.T.Trial.holds c.args.trial.now) c.loop-p.chosen.items c.args.chosen.now.items c.deref-p-items.result.now c.loop-p.p-index c.args.regions.now c.region-item.result
      c.loop-p.invariant.chosen c.in-len1-up.len_at_least c.region-item.is c.deref-p-items.ensures.value c.loop-p-test.true) c.in_ok-follow-in-len1-up.ensures.advance);
  settled = λ k q rest h e r f. elim (cases_lt k c.loop-p.p-index) [
    | inl i ↦ settled_later (g.met.T.Trial.more c.args.trial.now) (c.args.chosen.now.items ++ q ∷ rest) (advance_wider (holds_of (g.T.Trial.holds c.args.trial.now) _ _) c.in_ok-follow-in-len1-up.ensures.advance) (c.loop-p.invariant.settled k q rest i e r f)
    | inr i ↦ carried (g.T.Trial.fits c.args.trial.now) (IsSettled (g.T.Trial.holds c.args.trial.now) (g.T.Trial.reasons c.args.trial.now) (g.T.Trial.rank c.args.trial.now) c.follow.new.progress)
        c.loop-p.chosen.items c.args.chosen.now.items rest (slice_index_or c.deref-p-items.result.now c.loop-p.p-index 0) q c.loop-p.invariant.chosen
        (element c.deref-p-items.result.now k c.loop-p.p-index q i h c.loop-p-test.true e) (c.in_ok-follow-in-len1-up.ensures.settled rest r) f
  ];
}
