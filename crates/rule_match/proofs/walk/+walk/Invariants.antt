use Rattle.std.proofs.Common.{◌≡◌, ℕ, ◌+◌, List, ◌∷◌, ◌++◌, length, ◌*◌, ◌<◌, slice_index_or}
use Rattle.rule_match.specs.Walk.{IsSettled, IsAdvance, AreOf, DoesGoOn}
use Rattle.rule_match.proofs.walk.+walk.Given as goal

abbrev pub decreases-follow : goal.decreases-follow
decreases-follow g l = 2 * length l.regions.now + 1

abbrev pub decreases-walk : goal.decreases-walk
decreases-walk g l = 2 * length l.regions.now

-- each assignment that goes on with a number of an earlier turn is settled
abbrev pub invariant-walk-loop-p : goal.invariant-walk-loop-p
invariant-walk-loop-p g l = record {
  chosen : l.chosen.items ≡ l.initial.chosen.items;
  advance : IsAdvance (DoesGoOn (g.T.Trial.holds l.trial) l.initial.chosen.items l.regions) (g.T.Trial.rank l.trial) l.initial.progress l.progress;
  settled : (k q : ℕ) (rest : List ℕ) → k < l.p-index → slice_index_or l.p-items k q ≡ q → AreOf l.others rest → g.T.Trial.fits l.trial (l.initial.chosen.items ++ q ∷ rest) →
      IsSettled (g.T.Trial.holds l.trial) (g.T.Trial.reasons l.trial) (g.T.Trial.rank l.trial) l.progress (l.initial.chosen.items ++ q ∷ rest);
}
